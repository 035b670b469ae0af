use Rattle.tw_print.specs.Due.{stacked}
use Rattle.tw_print.specs.SceneView.{scene_in}
use Rattle.tw_print.proofs.Dues.{plain_due}
use Rattle.tw_print.proofs.Printing.{on_ok}
use Rattle.tw_print.proofs.due.push_plain.Goals as goal

pub returns : goal.returns
returns c =
    on_ok c.push.result _ _
    (plain_due (scene_in c.args.scene.now) c.args.inner c.args.hidden c.args.word c.args.arguments.items c.push_spaced.new.arguments.items (stacked c.args.due.now.items) (stacked c.push_spaced.new.due.items) (stacked c.push.new.due.items) c.in_ok-push_spaced.ensures.puts c.in_ok-push_spaced.ensures.most)
    c.push.ensures
