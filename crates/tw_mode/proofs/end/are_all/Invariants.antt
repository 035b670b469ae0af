use Rattle.std.proofs.Common.{drop}
use Rattle.std.specs.Prelude.{◌↔◌}
use Rattle.tw_mode.specs.Ends.{AreAllTrue}
use Rattle.tw_mode.proofs.end.are_all.Given as goal

abbrev pub invariant-loop-mark : goal.invariant-loop-mark
invariant-loop-mark l = AreAllTrue (drop l.mark-index l.marks) ↔ AreAllTrue l.marks
