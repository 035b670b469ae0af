use Rattle.lf_cases.proofs.Subgoals.{downward_self_contained}
use Rattle.lf_cases.proofs.downward_is_self_contained.Goals as goal

pub returns : goal.returns
returns c = downward_self_contained
