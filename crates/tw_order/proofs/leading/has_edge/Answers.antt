use Rattle.std.proofs.Common.{arith, inl, inr}
use Rattle.tw_order.proofs.Deciding.{decided_yes}
use Rattle.tw_order.proofs.Reaching.{edge_found, edge_passed}
use Rattle.tw_order.proofs.leading.has_edge.Goals as goal
use Rattle.tw_order.proofs.leading.has_edge.Goals.{else-edge-caller-via-then-edge-caller+else-edge-callee, else-edge-caller-via-else-edge-caller}

pub returns-then-edge-callee : goal.returns-then-edge-callee
returns-then-edge-callee c = decided_yes (edge_found c.args.edges.now c.loop-edge.edge-index c.args.caller c.args.callee _ (omega arith) c.if-edge-caller.true c.if-edge-callee.true)

pub loop-edge-preserved : goal.loop-edge-preserved
loop-edge-preserved c =
    edge_passed c.args.edges.now c.loop-edge.edge-index c.args.caller c.args.callee _ (omega arith) c.loop-edge.invariant
    (elim c.else-edge-caller.branch [
      | else-edge-caller-via-then-edge-caller+else-edge-callee w ↦ inr w.if-edge-callee.false
      | else-edge-caller-via-else-edge-caller w ↦ inl w.if-edge-caller.false
    ])
