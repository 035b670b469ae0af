use Rattle.tw_order.proofs.Reaching.{edge_pushed}
use Rattle.tw_order.proofs.leading.add_edge.Goals as goal

pub returns : goal.returns
returns c = λ a b. edge_pushed c.args.edges.now.items c.push.new.self.items c.args.caller c.args.callee a b c.in_ok-push.ensures.items
