use Rattle.std.proofs.Common.{arith}
use Rattle.tw_shown.specs.Due.{stacked}
use Rattle.tw_shown.proofs.Dues.{all_put, one_put, none_put}
use Rattle.tw_shown.proofs.due.push_arguments.Goals as goal

pub loop-left-init : goal.loop-left-init
loop-left-init c = none_put c.args.inner c.args.hidden c.args.arguments.items (stacked c.args.due.now.items)

pub loop-left-preserved : goal.loop-left-preserved
loop-left-preserved c =
    one_put c.args.inner c.args.hidden c.args.arguments.items c.loop-left.left.items c.pop.new.self.items c.in-Some.argument (stacked c.args.due.now.items) (stacked c.loop-left.due.items) (stacked c.push.new.due.items)
    c.loop-left.invariant c.in-Some.ensures.items (omega arith) c.in_ok-push-in-Some.ensures

pub returns : goal.returns
returns c = all_put c.args.inner c.args.hidden c.args.arguments.items c.loop-left.left.items (stacked c.args.due.now.items) (stacked c.loop-left.due.items) c.loop-left.invariant (omega arith)
