use Rattle.std.proofs.Common.{sym}
use Rattle.tw_print.specs.SceneView.{scene_in}
use Rattle.tw_print.specs.Due.{stacked}
use Rattle.tw_print.proofs.Dues.{operand_bare, operand_enclosed}
use Rattle.tw_print.proofs.Printing.{on_ok}
use Rattle.tw_print.proofs.due.push_operand.Goals as goal

pub returns-then-not-is_operation : goal.returns-then-not-is_operation
returns-then-not-is_operation c =
    on_ok c.push.result _ _ (operand_bare (scene_in c.args.scene.now) c.args.inner c.args.argument (stacked c.args.due.now.items) (stacked c.push.new.due.items) (sym c.if-not-is_operation.ensures)) c.push.ensures

pub returns : goal.returns
returns c =
    on_ok c.push-4.result _ _
    (operand_enclosed (scene_in c.args.scene.now) c.args.inner c.args.argument (stacked c.args.due.now.items) (stacked c.push-2.new.due.items) (stacked c.push-3.new.due.items) (stacked c.push-4.new.due.items) (sym c.if-not-is_operation.ensures) c.in_ok-push.ensures c.in_ok-push-2.ensures)
    c.push-4.ensures
