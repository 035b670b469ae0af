use Rattle.std.proofs.Common.{◌≡◌, ◌≤◌, drop, length}
use Rattle.tw_terms.specs.View.{term_of}
use Rattle.tw_world.specs.Finding.{abstracted}
use Rattle.tw_world.proofs.moving.invert.Given as goal

abbrev pub invariant-loop-left : goal.invariant-loop-left
invariant-loop-left l = record {
  bounded : l.left ≤ length l.variables;
  so_far : term_of l.value ≡ abstracted (drop l.left l.variables) (term_of l.instance);
}

abbrev pub decreases-loop-left : goal.decreases-loop-left
decreases-loop-left l = l.left
