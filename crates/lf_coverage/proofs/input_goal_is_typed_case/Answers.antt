use Rattle.lf_coverage.proofs.TypedCases.{input_goal_is_typed_case}
use Rattle.lf_coverage.proofs.input_goal_is_typed_case.Goals as goal

pub returns : goal.returns
returns c = input_goal_is_typed_case
