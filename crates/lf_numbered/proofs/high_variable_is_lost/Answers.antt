use Rattle.lf_numbered.proofs.NumberedBesideHigh.{high_is_lost}
use Rattle.lf_numbered.proofs.high_variable_is_lost.Goals as goal

pub returns : goal.returns
returns c = high_is_lost
