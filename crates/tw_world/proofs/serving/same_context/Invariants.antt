use Rattle.std.proofs.Common.{◌≡◌, ◌-◌, ◌<◌, ◌≤◌, ℕ}
use Rattle.std.specs.Prelude.{slice_get}
use Rattle.tw_world.proofs.serving.same_context.Given as goal

abbrev pub invariant-loop-next : goal.invariant-loop-next
invariant-loop-next l = record {
  bounded : l.next ≤ l.count;
  so_far : (i : ℕ) → i < l.next → slice_get l.context i ≡ slice_get l.other i;
}

abbrev pub decreases-loop-next : goal.decreases-loop-next
decreases-loop-next l = l.count - l.next
