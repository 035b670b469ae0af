use Rattle.lf_totality.proofs.RaisedOutputs.{low_cover}
use Rattle.lf_totality.proofs.low_outputs_cover.Goals as goal

pub returns : goal.returns
returns c = low_cover
