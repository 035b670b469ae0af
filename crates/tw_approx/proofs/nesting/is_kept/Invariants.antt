use Rattle.std.proofs.Common.{◌≡◌}
use Rattle.tw_approx.specs.Nesting.{is_kept}
use Rattle.tw_parse.specs.View.{term_of}
use Rattle.tw_approx.proofs.nesting.is_kept.Given as goal

abbrev pub invariant-loop-rest : goal.invariant-loop-rest
invariant-loop-rest l = is_kept l.signature (term_of l.rest) ≡ is_kept l.signature (term_of l.fn.row)
