use Rattle.lf.proofs.Strengthening.{strengthening}
use Rattle.lf.proofs.variables_are_within.Goals as goal

pub returns : goal.returns
returns c = strengthening
