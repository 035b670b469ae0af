use Rattle.lf_coverage.proofs.OutputTyped.{output_goal_is_typed_case}
use Rattle.lf_coverage.proofs.output_goal_is_typed_case.Goals as goal

pub returns : goal.returns
returns c = output_goal_is_typed_case
