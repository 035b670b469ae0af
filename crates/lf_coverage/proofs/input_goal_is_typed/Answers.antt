use Rattle.lf_coverage.proofs.TypedCases.{input_goal_is_typed}
use Rattle.lf_coverage.proofs.input_goal_is_typed.Goals as goal

pub returns : goal.returns
returns c = input_goal_is_typed
