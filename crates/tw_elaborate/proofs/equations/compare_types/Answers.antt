use Rattle.tw_elaborate.proofs.Taking.{keeps_same}
use Rattle.tw_elaborate.proofs.equations.compare_types.Goals as goal

pub returns-in_err-context-clause-keeps : goal.returns-in_err-context-clause-keeps
returns-in_err-context-clause-keeps c = keeps_same c.args.state.now
