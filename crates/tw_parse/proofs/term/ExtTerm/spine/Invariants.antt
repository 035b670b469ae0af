use Rattle.std.proofs.Common.{◌≡◌}
use Rattle.tw_parse.specs.Applied.{applied_to, written_terms}
use Rattle.tw_parse.specs.View.{term_of}
use Rattle.tw_parse.proofs.term.ExtTerm.spine.Given as goal

abbrev pub invariant-loop-head : goal.invariant-loop-head
invariant-loop-head l = applied_to (term_of l.head) (written_terms l.arguments.items) ≡ term_of l.fn.self
