use Rattle.std.proofs.Common.{length, refl, sym, subst}
use Rattle.std.proofs.lemmas.Option.{slice_get_read}
use Rattle.lf.specs.Depth.{depth_limit}
use Rattle.tw_shapes.specs.Shapes.{IsDeeper, IsSettled}
use Rattle.tw_shapes.proofs.Views.{shape_of-Variable}
use Rattle.tw_approx.proofs.Rows.{row_deeper_at, row_settled_at}
use Rattle.tw_approx.proofs.solving.solved_rows.Goals as goal

pub solved-requires : goal.solved-requires
solved-requires c =
    let r = c.variable-item.result in
    subst (IsSettled c.args.shapes.now) (sym (shape_of-Variable r.shape)) (row_settled_at (λ q. (q.name, q.shape.0)) c.args.shapes.now c.args.variables.now c.loop-variable.variable-index r (slice_get_read c.args.variables.now (length c.args.variables.now) c.loop-variable.variable-index r refl c.loop-variable-test.true c.variable-item.is) c.requires)

pub returns-in-None : goal.returns-in-None
returns-in-None c =
    let i = rw c.in-None.is at c.in_ok-skeleton.ensures in
    let r = c.variable-item.result in
    row_deeper_at (λ q. (q.name, q.shape.0)) c.args.shapes.now c.args.variables.now c.loop-variable.variable-index r (slice_get_read c.args.variables.now (length c.args.variables.now) c.loop-variable.variable-index r refl c.loop-variable-test.true c.variable-item.is) (subst (IsDeeper depth_limit c.args.shapes.now) (shape_of-Variable r.shape) i)
