use Rattle.tw_open.specs.Fresh.{declares_nothing}
use Rattle.tw_search.proofs.taking.take_one.Goals as goal

pub returns-in_err-ty-clause-keeps : goal.returns-in_err-ty-clause-keeps
returns-in_err-ty-clause-keeps c = declares_nothing
