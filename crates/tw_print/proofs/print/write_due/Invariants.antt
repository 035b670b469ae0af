use Rattle.tw_print.specs.Due.{Goes, stacked}
use Rattle.tw_print.specs.SceneView.{scene_in}
use Rattle.tw_print.proofs.print.write_due.Given as goal

-- what is written and what is due come to the same as at first
abbrev pub invariant-loop : goal.invariant-loop
invariant-loop l = Goes (scene_in l.scene) l.fn.page l.page (stacked l.fn.due.items) (stacked l.left.items)
