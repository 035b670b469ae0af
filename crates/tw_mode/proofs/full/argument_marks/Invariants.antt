use Rattle.std.proofs.Common.{◌≡◌, ◌++◌, drop, map, reverse}
use Rattle.lf_checks.specs.ModeForms.{argument_marks as marks_of_spine}
use Rattle.tw_clause.specs.View.{mark_of}
use Rattle.tw_terms.specs.View.{args_of}
use Rattle.tw_mode.proofs.full.argument_marks.Given as goal

abbrev pub invariant-loop-arg : goal.invariant-loop-arg
invariant-loop-arg l = map mark_of l.placed.items ++ marks_of_spine (reverse (map mark_of l.marks)) (args_of (drop l.arg-index l.arg-items)) ≡ marks_of_spine (reverse (map mark_of l.marks)) (args_of l.arg-items)
