use Rattle.lf_totality.proofs.OutputGoals.{constant_goal_covers}
use Rattle.lf_totality.proofs.output_goal_covers.Goals as goal

pub returns : goal.returns
returns c = constant_goal_covers
