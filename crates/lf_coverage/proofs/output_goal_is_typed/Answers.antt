use Rattle.lf_coverage.proofs.OutputBeside.{output_goal_is_typed}
use Rattle.lf_coverage.proofs.output_goal_is_typed.Goals as goal

pub returns : goal.returns
returns c = output_goal_is_typed
