use Rattle.std.proofs.Common.{map, vec_len}
use Rattle.tw_print.specs.Due.{PutsSpaced, stacked}
use Rattle.tw_print.specs.SceneView.{scene_in}
use Rattle.tw_print.proofs.Dues.{bare}
use Rattle.tw_print.proofs.due.push_bare.Given as goal

abbrev pub invariant-loop-left : goal.invariant-loop-left
invariant-loop-left l = PutsSpaced (scene_in l.scene) l.inner l.hidden (map bare l.fn.terms.items) (map bare l.left.items) (stacked l.fn.due.items) (stacked l.due.items)

abbrev pub decreases-loop-left : goal.decreases-loop-left
decreases-loop-left l = vec_len l.left
