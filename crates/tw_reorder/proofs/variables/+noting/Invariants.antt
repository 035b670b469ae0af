use Rattle.std.proofs.Common.{◌≡◌, drop}
use Rattle.tw_abstract.specs.Occurrences.{noted}
use Rattle.tw_terms.specs.View.{args_of}
use Rattle.tw_reorder.specs.Variables.{spine_variables}
use Rattle.tw_reorder.proofs.variables.+noting.Given as goal

-- what is found so far, with the rest, is the whole
abbrev pub invariant-note_spine-loop-arg : goal.invariant-note_spine-loop-arg
invariant-note_spine-loop-arg l = noted l.fn.found (spine_variables l.binders (args_of l.arg-items)) ≡ noted l.found (spine_variables l.binders (args_of (drop l.arg-index l.arg-items)))
