use Rattle.lf_coverage.proofs.GoalTyped.{goal_matching_decides as proved}
use Rattle.lf_coverage.proofs.goal_matching_decides.Goals as goal

pub returns : goal.returns
returns c = proved
