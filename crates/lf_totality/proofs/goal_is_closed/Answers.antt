use Rattle.lf_totality.proofs.ExamplesReached.{goal_closed}
use Rattle.lf_totality.proofs.goal_is_closed.Goals as goal

pub returns : goal.returns
returns c = goal_closed
