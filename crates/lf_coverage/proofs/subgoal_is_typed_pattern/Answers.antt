use Rattle.lf_coverage.proofs.Leaves.{subgoal_is_typed}
use Rattle.lf_coverage.proofs.subgoal_is_typed_pattern.Goals as goal

pub returns : goal.returns
returns c = subgoal_is_typed
