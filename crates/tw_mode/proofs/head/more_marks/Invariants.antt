use Rattle.std.proofs.Common.{◌≡◌, ◌≤◌, ◌-◌, length}
use Rattle.tw_mode.specs.Solved.{with_hidden}
use Rattle.tw_mode.proofs.head.more_marks.Given as goal

abbrev pub invariant-loop-marks : goal.invariant-loop-marks
invariant-loop-marks l = record {
  so_far : with_hidden l.marks.items (l.depth - length l.marks.items) ≡ with_hidden l.outer (l.depth - length l.outer);
  within : length l.marks.items ≤ l.depth;
}

abbrev pub decreases-loop-marks : goal.decreases-loop-marks
decreases-loop-marks l = l.depth - length l.marks.items
