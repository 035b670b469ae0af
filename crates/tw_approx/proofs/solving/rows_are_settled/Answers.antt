use Rattle.std.proofs.Common.{◌≡◌, suc, ◌+◌, ◌++◌, ◌∷◌, [], length, take, refl, arith, ap, sym, subst, ◌∙◌}
use Rattle.std.proofs.Math.Seq.{take-suc}
use Rattle.std.proofs.lemmas.Option.{slice_get_read}
use Rattle.tw_shapes.specs.Shapes.{IsOpen, IsSettled}
use Rattle.tw_shapes.proofs.Views.{shape_of-Variable}
use Rattle.tw_approx.proofs.Rows.{row_open_at, row_settled_more}
use Rattle.tw_approx.proofs.solving.rows_are_settled.Goals as goal

pub returns-then-not-branch : goal.returns-then-not-branch
returns-then-not-branch c =
    let i = rw c.if-not-branch.true at c.in_ok-is_settled.ensures in
    let r = c.variable-item.result in
    row_open_at (λ q. (q.name, q.shape.0)) c.args.shapes.now c.args.variables.now c.loop-variable.variable-index r (slice_get_read c.args.variables.now (length c.args.variables.now) c.loop-variable.variable-index r refl c.loop-variable-test.true c.variable-item.is) (subst (IsOpen c.args.shapes.now) (shape_of-Variable r.shape) i)

pub loop-variable-preserved : goal.loop-variable-preserved
loop-variable-preserved c =
    let s = rw c.if-not-branch.false at c.in_ok-is_settled.ensures in
    let r = c.variable-item.result in
    let vs = c.args.variables.now in
    let i = c.loop-variable.variable-index in
    let n : suc i ≡ i + 1 = omega arith in
    let t : take (i + 1) vs ≡ take i vs ++ r ∷ [] = ap (λ j. take j vs) (sym n) ∙ take-suc vs i r c.loop-variable-test.true ∙ ap (λ x. take i vs ++ x ∷ []) (sym c.variable-item.is) in
    row_settled_more (λ q. (q.name, q.shape.0)) c.args.shapes.now (take i vs) (take (i + 1) vs) r t (subst (IsSettled c.args.shapes.now) (shape_of-Variable r.shape) s) c.loop-variable.invariant
