use Rattle.std.proofs.Common.{vec_len}
use Rattle.tw_print.specs.Due.{PutsSpaced, stacked}
use Rattle.tw_print.specs.SceneView.{scene_in}
use Rattle.tw_print.proofs.due.push_spaced.Given as goal

abbrev pub invariant-loop-arguments : goal.invariant-loop-arguments
invariant-loop-arguments l = PutsSpaced (scene_in l.scene) l.inner l.keep l.fn.arguments.items l.arguments.items (stacked l.fn.due.items) (stacked l.due.items)

abbrev pub decreases-loop-arguments : goal.decreases-loop-arguments
decreases-loop-arguments l = vec_len l.arguments
