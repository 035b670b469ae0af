use Rattle.std.proofs.Common.{get_or, sym, subst}
use Rattle.std.proofs.lemmas.Option.{slice_get-get_or}
use Rattle.lf.specs.Depth.{depth_limit}
use Rattle.tw_shapes.specs.Shapes.{IsDeeper, IsSettled}
use Rattle.tw_shapes.specs.declared.shape.ShapeId.{ShapeId}
use Rattle.tw_shapes.proofs.Views.{shape_of-Variable}
use Rattle.tw_approx.proofs.Rows.{deeper_at, settled_at}
use Rattle.tw_approx.proofs.solving.solved_all.Goals as goal

pub solved-requires : goal.solved-requires
solved-requires c =
    let d : ShapeId = record { 0 = 0 } in
    let v = get_or c.args.variables.now c.loop-variable.variable-index d in
    subst (IsSettled c.args.shapes.now) (sym (shape_of-Variable v)) (settled_at (λ m. m.0) c.args.shapes.now c.args.variables.now c.loop-variable.variable-index v c.requires.0 (slice_get-get_or c.args.variables.now c.loop-variable.variable-index d c.loop-variable-test.true) c.requires.1)

pub returns-in-None : goal.returns-in-None
returns-in-None c =
    let i = rw c.in-None.is at c.in_ok-skeleton.ensures in
    let d : ShapeId = record { 0 = 0 } in
    let v = get_or c.args.variables.now c.loop-variable.variable-index d in
    deeper_at (λ m. m.0) c.args.shapes.now c.args.variables.now c.loop-variable.variable-index v (slice_get-get_or c.args.variables.now c.loop-variable.variable-index d c.loop-variable-test.true) (subst (IsDeeper depth_limit c.args.shapes.now) (shape_of-Variable v) i)
