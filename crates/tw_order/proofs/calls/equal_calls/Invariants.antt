use Rattle.std.proofs.Common.{ℕ, map, take}
use Rattle.std.specs.Prelude.{◌⊎◌, ◌↔◌}
use Rattle.tw_order.specs.Calls.{IsEqualIn}
use Rattle.tw_order.specs.Leading.{HasEdge}
use Rattle.tw_order.specs.Listing.{clause_in}
use Rattle.tw_order.proofs.Calling.{Among}
use Rattle.tw_order.proofs.calls.equal_calls.Given as goal

abbrev pub invariant-loop-clause : goal.invariant-loop-clause
invariant-loop-clause l = (a b : ℕ) → HasEdge l.edges.items a b ↔ (⊥ ⊎ Among clause_in (λ c. IsEqualIn l.group c a b) (map clause_in (take l.clause-index l.listed)))
