use Rattle.lf_cases.proofs.Subgoals.{union_self_contained}
use Rattle.lf_cases.proofs.union_is_self_contained.Goals as goal

pub returns : goal.returns
returns c = union_self_contained
