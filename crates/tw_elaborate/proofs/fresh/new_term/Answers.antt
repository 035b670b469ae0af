use Rattle.std.proofs.Common.{map, refl}
use Rattle.tw_metas.specs.View.{equation_of}
use Rattle.tw_elaborate.proofs.fresh.new_term.Goals as goal

pub returns-in_err-term-clause-keeps : goal.returns-in_err-term-clause-keeps
returns-in_err-term-clause-keeps c = record { locals = refl; store = c.in_err-term.ensures.keeps }

pub returns-clause-ok : goal.returns-clause-ok
returns-clause-ok c = record { state = c.in_ok-term.ensures.ok.state (map equation_of c.args.state.now.equations.items); term = c.in_ok-term.ensures.ok.term }

pub returns-clause-keeps : goal.returns-clause-keeps
returns-clause-keeps c = record { locals = refl; store = c.in_ok-term.ensures.keeps }
