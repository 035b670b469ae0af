use Rattle.tw_resolve.proofs.WholeBodies.{goals_are_constants}
use Rattle.tw_resolve.proofs.laws.goals_are_constants.Goals as goal

pub returns : goal.returns
returns c = goals_are_constants
