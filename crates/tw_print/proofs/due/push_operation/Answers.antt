use Rattle.std.proofs.Common.{◌≡◌, ◌+◌, length, ap, ◌∙◌}
use Rattle.tw_print.specs.Due.{stacked}
use Rattle.tw_print.specs.SceneView.{scene_in}
use Rattle.tw_print.specs.Shown as layout
use Rattle.tw_print.proofs.Dues.{infix_due, operation_by}
use Rattle.tw_print.proofs.Printing.{on_ok}
use Rattle.tw_print.proofs.due.push_operation.Goals as goal

pub returns-in-Infix : goal.returns-in-Infix
returns-in-Infix c =
    let s = scene_in c.args.scene.now in
    let xs = c.args.arguments.items in
    let l : length xs ≡ c.args.hidden + 2 = c.requires ∙ ap (λ f. c.args.hidden + layout.operand_count f) c.in-Infix.is in
    on_ok c.push_operand-in-Infix.result _ _
    (λ p. operation_by s c.args.inner c.args.hidden c.args.word c.args.fix _ xs (stacked c.args.due.now.items) (stacked c.push_operand-in-Infix.new.due.items) c.in-Infix.is
    (infix_due s c.args.inner c.args.hidden c.args.word c.in-Infix.field-0 c.in-Infix.field-1 xs c.pop_argument-right.new.arguments.items c.pop_argument-first.new.arguments.items c.pop_argument-first.result c.pop_argument-right.result
    (stacked c.args.due.now.items) (stacked c.push_operand.new.due.items) (stacked c.push.new.due.items) (stacked c.push-in-Infix.new.due.items) (stacked c.push-in-Infix-2.new.due.items) (stacked c.push_operand-in-Infix.new.due.items)
    c.pop_argument-right.ensures c.pop_argument-first.ensures l c.in_ok-push_operand-in-Infix.ensures c.in_ok-push-in-Infix.ensures c.in_ok-push-in-Infix-2.ensures c.in_ok-push-in-Infix-3.ensures p))
    c.push_operand-in-Infix.ensures
