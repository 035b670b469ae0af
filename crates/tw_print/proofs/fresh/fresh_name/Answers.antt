use Rattle.std.proofs.Common.{◌∙◌, sym, ap, arith}
use Rattle.tw_print.specs.SceneView.{scene_in}
use Rattle.tw_print.specs.Names as spec
use Rattle.tw_print.proofs.FirstFree.{next_candidate}
use Rattle.tw_print.proofs.fresh.fresh_name.Goals as goal

pub loop-name-preserved : goal.loop-name-preserved
loop-name-preserved c =
    next_candidate (scene_in c.args.scene.now) c.args.scope.now c.args.base.now c.loop-name.number c.in_ok-number.number c.in_ok-name.name _ (omega arith) c.in_ok-number.ensures c.in_ok-name.ensures (ap (spec.is_taken (scene_in c.args.scene.now) c.args.scope.now) (sym c.as_bytes.ensures) ∙ sym c.if-not-is_taken.ensures) c.loop-name.invariant
