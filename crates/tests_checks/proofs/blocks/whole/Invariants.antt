use Rattle.std.proofs.Common.{◌≡◌, ◌≤◌, drop, length}
use Rattle.lf.specs.Variables.{onto}
use Rattle.tests_checks.proofs.blocks.whole.Given as goal

abbrev pub invariant-loop-left : goal.invariant-loop-left
invariant-loop-left l = record {
  so_far : l.context ≡ onto (drop l.left l.block.entries) l.block.some;
  within : l.left ≤ length l.block.entries;
}

abbrev pub decreases-loop-left : goal.decreases-loop-left
decreases-loop-left l = l.left
