use Rattle.tw_open.specs.Fresh.{declares_nothing}
use Rattle.tw_search.proofs.taking.take_closed.Goals as goal

pub returns-in_err-spine-in-Closed-Atom-clause-keeps : goal.returns-in_err-spine-in-Closed-Atom-clause-keeps
returns-in_err-spine-in-Closed-Atom-clause-keeps c = declares_nothing

pub returns-in_err-ty-in_default-clause-keeps : goal.returns-in_err-ty-in_default-clause-keeps
returns-in_err-ty-in_default-clause-keeps c = declares_nothing
