use Rattle.std.proofs.Common.{◌-◌, ◌≡◌, ◌<◌, ◌≤◌, ℕ, true}
use Rattle.lf.specs.Variables.{nothing}
use Rattle.lf_checks.specs.Strict.{strict_type}
use Rattle.tw_terms.specs.View.{type_of}
use Rattle.tw_world.proofs.blocks.are_strict.Given as goal

abbrev pub invariant-loop-next : goal.invariant-loop-next
invariant-loop-next l = record {
  bounded : l.next ≤ l.count;
  so_far : (x : ℕ) → x < l.next → strict_type nothing nothing x (type_of l.pattern) ≡ true;
}

abbrev pub decreases-loop-next : goal.decreases-loop-next
decreases-loop-next l = l.count - l.next
