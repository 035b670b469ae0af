use Rattle.std.proofs.Common.{take}
use Rattle.tw_order.specs.Leading.{IsDue}
use Rattle.tw_order.specs.declared.leading.Edge.{Edge}
use Rattle.tw_order.proofs.leading.due.Given as goal

abbrev pub invariant-loop-place : goal.invariant-loop-place
invariant-loop-place l = (e : Edge) → IsDue (take l.place l.left) l.reached e → ⊥
