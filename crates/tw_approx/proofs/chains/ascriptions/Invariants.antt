use Rattle.std.proofs.Common.{◌≡◌}
use Rattle.tw_approx.specs.Ascribed.{ascribed_to}
use Rattle.tw_parse.specs.Applied.{written_terms}
use Rattle.tw_parse.specs.View.{term_of}
use Rattle.tw_approx.proofs.chains.ascriptions.Given as goal

abbrev pub invariant-loop-rest : goal.invariant-loop-rest
invariant-loop-rest l = ascribed_to (term_of l.rest) (written_terms l.types.items) ≡ term_of l.fn.term
