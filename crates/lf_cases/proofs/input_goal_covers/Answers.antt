use Rattle.lf_cases.proofs.InputGoal.{goal_covers}
use Rattle.lf_cases.proofs.input_goal_covers.Goals as goal

pub returns : goal.returns
returns c = goal_covers
