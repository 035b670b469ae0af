use Rattle.lf_totality.proofs.Refusals.{covers_nothing}
use Rattle.lf_totality.proofs.some_variable_covers_nothing.Goals as goal

pub returns : goal.returns
returns c = covers_nothing
