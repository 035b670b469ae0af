use Rattle.std.proofs.Common.{◌≡◌, suc, ◌+◌, ◌++◌, ◌∷◌, [], get_or, take, arith, ap, sym, subst, ◌∙◌}
use Rattle.std.proofs.Math.Seq.{take-suc}
use Rattle.std.proofs.lemmas.Option.{slice_get-get_or}
use Rattle.tw_shapes.specs.Shapes.{IsOpen, IsSettled}
use Rattle.tw_shapes.specs.declared.shape.ShapeId.{ShapeId}
use Rattle.tw_shapes.proofs.Views.{shape_of-Variable}
use Rattle.tw_approx.proofs.Rows.{open_at, settled_more}
use Rattle.tw_approx.proofs.solving.are_settled.Goals as goal

pub returns-then-not-branch : goal.returns-then-not-branch
returns-then-not-branch c =
    let i = rw c.if-not-branch.true at c.in_ok-is_settled.ensures in
    let d : ShapeId = record { 0 = 0 } in
    let v = get_or c.args.variables.now c.loop-variable.variable-index d in
    open_at (λ m. m.0) c.args.shapes.now c.args.variables.now c.loop-variable.variable-index v (slice_get-get_or c.args.variables.now c.loop-variable.variable-index d c.loop-variable-test.true) (subst (IsOpen c.args.shapes.now) (shape_of-Variable v) i)

pub loop-variable-preserved : goal.loop-variable-preserved
loop-variable-preserved c =
    let s = rw c.if-not-branch.false at c.in_ok-is_settled.ensures in
    let d : ShapeId = record { 0 = 0 } in
    let vs = c.args.variables.now in
    let i = c.loop-variable.variable-index in
    let v = get_or vs i d in
    let n : suc i ≡ i + 1 = omega arith in
    let t : take (i + 1) vs ≡ take i vs ++ v ∷ [] = ap (λ j. take j vs) (sym n) ∙ take-suc vs i d c.loop-variable-test.true in
    settled_more (λ m. m.0) c.args.shapes.now (take i vs) (take (i + 1) vs) v t (subst (IsSettled c.args.shapes.now) (shape_of-Variable v) s) c.loop-variable.invariant
