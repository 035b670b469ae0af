use Rattle.lf_totality.proofs.RaisedOutputs.{places_low}
use Rattle.lf_totality.proofs.typed_tuples_are_low.Goals as goal

pub returns : goal.returns
returns c = places_low
