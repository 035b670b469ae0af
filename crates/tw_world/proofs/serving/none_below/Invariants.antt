use Rattle.std.proofs.Common.{◌≡◌, ◌-◌, ◌<◌, ◌≤◌, ℕ, false}
use Rattle.std.specs.Prelude.{slice_get}
use Rattle.tw_world.specs.Serving.{below_in, is_below_target}
use Rattle.tw_world.proofs.serving.none_below.Given as goal

abbrev pub invariant-loop-next : goal.invariant-loop-next
invariant-loop-next l = record {
  bounded : l.next ≤ l.count;
  so_far : (i : ℕ) → i < l.next → is_below_target (below_in l.subord l.family.0) (slice_get l.entries i) ≡ false;
}

abbrev pub decreases-loop-next : goal.decreases-loop-next
decreases-loop-next l = l.count - l.next
