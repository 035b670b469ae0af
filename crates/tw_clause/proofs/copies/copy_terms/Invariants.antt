use Rattle.std.proofs.Common.{◌≡◌, map, take}
use Rattle.tw_terms.specs.OpenView.{open_term_of}
use Rattle.tw_clause.proofs.copies.copy_terms.Given as goal

abbrev pub invariant-loop-term : goal.invariant-loop-term
invariant-loop-term l = map open_term_of l.copies.items ≡ map open_term_of (take l.term-index l.terms)
