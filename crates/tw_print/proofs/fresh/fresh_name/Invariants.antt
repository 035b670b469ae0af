use Rattle.std.proofs.Common.{◌≡◌, ◌-◌, ◌^◌}
use Rattle.tw_print.specs.Names as spec
use Rattle.tw_print.specs.SceneView.{scene_in}
use Rattle.tw_print.proofs.fresh.fresh_name.Given as goal

abbrev pub invariant-loop-name : goal.invariant-loop-name
invariant-loop-name l = spec.first_free (spec.candidates - l.number) (scene_in l.scene) l.scope l.base l.number ≡ spec.fresh_name (scene_in l.scene) l.scope l.base

abbrev pub decreases-loop-name : goal.decreases-loop-name
decreases-loop-name l = 2 ^ 64 - l.number
