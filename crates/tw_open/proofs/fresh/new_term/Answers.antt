use Rattle.tw_open.proofs.NewTerms.{declares_same}
use Rattle.std.proofs.Common.{refl}
use Rattle.tw_open.proofs.fresh.new_term.Goals as goal

pub returns-in_err-copied-clause-keeps : goal.returns-in_err-copied-clause-keeps
returns-in_err-copied-clause-keeps c = declares_same c.args.store.now c.args.store.now refl
