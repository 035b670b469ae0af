use Rattle.std.proofs.Common.{arith}
use Rattle.tw_print.specs.Due.{stacked}
use Rattle.tw_print.specs.SceneView.{scene_in}
use Rattle.tw_print.proofs.Dues.{bare_due, bare_more}
use Rattle.tw_print.proofs.due.push_bare.Goals as goal

pub loop-left-preserved : goal.loop-left-preserved
loop-left-preserved c =
    bare_more (scene_in c.args.scene.now) c.args.inner c.args.hidden c.args.terms.items c.loop-left.left.items c.pop.new.self.items c.in-Some.term (stacked c.args.due.now.items) (stacked c.loop-left.due.items) (stacked c.push_argument.new.due.items) (stacked c.push.new.due.items)
    c.loop-left.invariant c.in-Some.ensures.items (omega arith) c.in_ok-push_argument-in-Some.ensures c.in_ok-push-in-Some.ensures

pub returns : goal.returns
returns c = bare_due (scene_in c.args.scene.now) c.args.inner c.args.hidden c.args.terms.items c.loop-left.left.items (stacked c.args.due.now.items) (stacked c.loop-left.due.items) c.loop-left.invariant (omega arith)
