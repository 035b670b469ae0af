use Rattle.std.proofs.Common.{◌≡◌, drop, map}
use Rattle.tw_abstract.specs.Occurrences.{noted}
use Rattle.tw_terms.specs.View.{term_of}
use Rattle.tw_reorder.specs.Variables.{variables_of_all}
use Rattle.tw_reorder.proofs.variables.note_terms.Given as goal

abbrev pub invariant-loop-term : goal.invariant-loop-term
invariant-loop-term l = noted l.fn.found (variables_of_all (map term_of l.terms)) ≡ noted l.found (variables_of_all (map term_of (drop l.term-index l.terms)))
