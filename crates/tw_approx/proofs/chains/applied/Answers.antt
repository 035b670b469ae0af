use Rattle.std.proofs.Common.{refl, ◌∙◌, ap}
use Rattle.tw_approx.specs.Reading.{state_of}
use Rattle.tw_shapes.proofs.Views.{shape_of-Arrow}
use Rattle.tw_shapes.specs.Dropping.{whole_of}
use Rattle.tw_shapes.specs.View.{shape_of}
use Rattle.tw_approx.proofs.Unifying.{unified, not_unified, arrow_reads_at, arrow_refuses_at}
use Rattle.tw_approx.proofs.chains.applied.Goals as goal

pub returns-then-branch : goal.returns-then-branch
returns-then-branch c =
    let S = shape_of c.in-Arrow.domain.value in
    let T = shape_of c.in-Arrow.range.value in
    let U = shape_of c.args.argument in
    let is = ap shape_of (c.parts.ensures ∙ ap whole_of c.in-Arrow.is) ∙ shape_of-Arrow c.in-Arrow.domain c.in-Arrow.range in
    rw (c.into_inner.ensures) (arrow_reads_at (state_of c.args.walk.now) c.unify.new.self (shape_of c.args.function) S T U is c.requires.sound c.requires.function
    (unified c.args.walk.now.shapes c.unify.new.self S U U c.in_ok-unify-in-Arrow.field-0 c.if-branch.true refl (rw c.deref.ensures at c.in_ok-unify-in-Arrow.ensures.ok)))

pub returns-in-Arrow : goal.returns-in-Arrow
returns-in-Arrow c =
    let S = shape_of c.in-Arrow.domain.value in
    let T = shape_of c.in-Arrow.range.value in
    let U = shape_of c.args.argument in
    let is = ap shape_of (c.parts.ensures ∙ ap whole_of c.in-Arrow.is) ∙ shape_of-Arrow c.in-Arrow.domain c.in-Arrow.range in
    arrow_refuses_at (state_of c.args.walk.now) (shape_of c.args.function) S T U is
    (not_unified c.args.walk.now.shapes c.unify.new.self S U U c.in_ok-unify-in-Arrow.field-0 c.if-branch.false refl (rw c.deref.ensures at c.in_ok-unify-in-Arrow.ensures.ok))
