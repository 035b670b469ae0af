use Rattle.std.proofs.Common.{◌≡◌, ◌+◌, ◌<◌, ◌≤◌, length, subst, arith}
use Rattle.tw_print.specs.Due.{PutsSpaced, stacked}
use Rattle.tw_print.specs.SceneView.{scene_in}
use Rattle.tw_print.specs.Shown as layout
use Rattle.tw_print.proofs.Dues.{just_operands, more_arguments}
use Rattle.tw_print.proofs.Printing.{on_ok}
use Rattle.tw_print.proofs.due.push_application.Goals as goal

pub returns-then-len-least-2 : goal.returns-then-len-least-2
returns-then-len-least-2 c =
    let k = c.in_ok-least.ensures in
    let l : length c.args.arguments.items ≡ layout.operand_count c.in-Some.fix + c.args.hidden = omega (arith, k) in
    on_ok c.push_operation.result _ _
    (just_operands (scene_in c.args.scene.now) c.args.inner c.args.hidden c.args.word c.in-Some.fix c.args.operator c.args.arguments.items (stacked c.args.due.now.items) (stacked c.push_operation.new.due.items) c.in-Some.is l)
    c.push_operation.ensures

pub returns : goal.returns
returns c =
    let s = scene_in c.args.scene.now in
    let xs = c.args.arguments.items in
    let ys = c.push_spaced.new.arguments.items in
    let old = stacked c.args.due.now.items in
    let d1 = stacked c.push_spaced.new.due.items in
    let most = layout.operand_count c.in-Some.fix + c.args.hidden in
    let k = c.in_ok-least.ensures in
    let g : most < length xs = omega (arith, k) in
    let t = c.in_ok-push_spaced.ensures.most in
    let l : length ys ≤ most = omega (arith, k, t) in
    on_ok c.push-2.result _ _
    (more_arguments s c.args.inner c.args.hidden c.args.word c.in-Some.fix c.args.operator xs ys old d1 (stacked c.push.new.due.items) (stacked c.push_operation-2.new.due.items) (stacked c.push-2.new.due.items) c.in-Some.is g
    (subst (λ keep. PutsSpaced s c.args.inner keep xs ys old d1) k c.in_ok-push_spaced.ensures.puts) l c.in_ok-push.ensures c.in_ok-push_operation.ensures)
    c.push-2.ensures
