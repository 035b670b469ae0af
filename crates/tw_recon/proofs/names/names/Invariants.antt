use Rattle.std.proofs.Common.{take}
use Rattle.tw_approx.specs.Answer.{rows_of}
use Rattle.tw_elaborate.specs.View.{numbers_of}
use Rattle.tw_recon.specs.Names.{NamesAll, nothing_named}
use Rattle.tw_recon.specs.NamingView.{naming_of}
use Rattle.tw_recon.proofs.names.names.Given as goal

abbrev pub invariant-loop-place : goal.invariant-loop-place
invariant-loop-place l = NamesAll l.store.now (numbers_of l.frees) (rows_of l.rows) (take l.place-index l.order) nothing_named (naming_of l.naming)
