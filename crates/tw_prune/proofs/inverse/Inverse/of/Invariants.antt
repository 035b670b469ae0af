use Rattle.std.proofs.Common.{◌≡◌, ◌+◌, length}
use Rattle.tw_prune.proofs.Filling.{IsPartTable}
use Rattle.tw_prune.proofs.inverse.Inverse.of.Given as goal

abbrev pub invariant-loop-variable : goal.invariant-loop-variable
invariant-loop-variable l = record {
  left : l.left + l.variable-index ≡ length l.pattern;
  part : IsPartTable l.pattern l.inner l.variable-index l.places.items;
}
