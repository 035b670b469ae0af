use Rattle.std.proofs.Common.{ℕ, map, take}
use Rattle.std.specs.Prelude.{◌⊎◌, ◌↔◌}
use Rattle.tw_order.specs.Calls.{IsEqualTo}
use Rattle.tw_order.specs.Leading.{HasEdge}
use Rattle.tw_order.specs.Listing.{clause_in}
use Rattle.tw_terms.specs.View.{type_of}
use Rattle.tw_order.proofs.Calling.{Among}
use Rattle.tw_order.proofs.calls.add_calls.Given as goal

abbrev pub invariant-loop-goal : goal.invariant-loop-goal
invariant-loop-goal l = (a b : ℕ) → HasEdge l.edges.items a b ↔ (HasEdge l.fn.edges.items a b ⊎ Among type_of (λ A. IsEqualTo l.group (clause_in l.clause) A a b) (map type_of (take l.goal-index l.goal-items)))
