use Rattle.std.proofs.Common.{arith}
use Rattle.tw_print.specs.Due.{stacked}
use Rattle.tw_print.specs.SceneView.{scene_in}
use Rattle.tw_print.proofs.Dues.{spaced_more, spaced_none}
use Rattle.tw_print.proofs.due.push_spaced.Goals as goal

pub loop-arguments-init : goal.loop-arguments-init
loop-arguments-init c = spaced_none (scene_in c.args.scene.now) c.args.inner c.args.keep c.args.arguments.now.items (stacked c.args.due.now.items)

pub loop-arguments-preserved : goal.loop-arguments-preserved
loop-arguments-preserved c =
    spaced_more (scene_in c.args.scene.now) c.args.inner c.args.keep c.args.arguments.now.items c.loop-arguments.arguments.items c.pop.new.self.items c.in-Some.argument (stacked c.args.due.now.items) (stacked c.loop-arguments.due.items) (stacked c.push_argument.new.due.items) (stacked c.push.new.due.items)
    c.loop-arguments.invariant c.in-Some.ensures.items (omega arith) c.in_ok-push_argument-in-Some.ensures c.in_ok-push-in-Some.ensures
