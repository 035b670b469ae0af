use Rattle.std.proofs.Common.{◌≡◌, ◌-◌, ◌≤◌, map, take}
use Rattle.tw_terms.specs.View.{type_of}
use Rattle.tw_decl.proofs.below.types_of.Given as goal

abbrev pub invariant-loop-next : goal.invariant-loop-next
invariant-loop-next l = record {
  bounded : l.next ≤ l.count;
  so_far : map type_of l.types.items ≡ take l.next l.entries;
}

abbrev pub decreases-loop-next : goal.decreases-loop-next
decreases-loop-next l = l.count - l.next
