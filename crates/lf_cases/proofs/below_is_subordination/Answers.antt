use Rattle.lf_cases.proofs.Subordinate.{below_is_subordination}
use Rattle.lf_cases.proofs.below_is_subordination.Goals as goal

pub returns : goal.returns
returns c = below_is_subordination
