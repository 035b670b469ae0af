use Rattle.tw_elaborate.proofs.Taking.{keeps_same}
use Rattle.tw_elaborate.proofs.parts.compare_ascribed.Goals as goal

pub returns-in-Star-clause-keeps : goal.returns-in-Star-clause-keeps
returns-in-Star-clause-keeps c = keeps_same c.args.state.now
