use Rattle.std.proofs.Common.{take}
use Rattle.tw_order.specs.Leading.{HasEdge}
use Rattle.tw_order.proofs.leading.has_edge.Given as goal

abbrev pub invariant-loop-edge : goal.invariant-loop-edge
invariant-loop-edge l = HasEdge (take l.edge-index l.edges) l.caller l.callee → ⊥
