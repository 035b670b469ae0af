use Rattle.std.proofs.Common.{◌≡◌, ◌++◌}
use Rattle.std.specs.Prelude.{drop, map}
use Rattle.tw_clause.specs.View.{mark_of as plain_mark}
use Rattle.tw_decl.specs.Modes.{mark_of}
use Rattle.tw_decl.proofs.modes.marks_of.Given as goal

abbrev pub invariant-loop-mark : goal.invariant-loop-mark
invariant-loop-mark l = map plain_mark l.marks.items ++ map mark_of (drop l.mark-index l.written) ≡ map mark_of l.written
