use Rattle.std.proofs.Common.{◌≡◌, ◌∷◌, None, ap, sym, subst, ◌∙◌}
use Rattle.tw_shapes.specs.Building.{IsLeaf, before}
use Rattle.tw_shapes.specs.BuildingView.{arrows_of}
use Rattle.tw_shapes.specs.Order.{IsFollowed}
use Rattle.tw_shapes.specs.Shapes.{AllVariables, value_of}
use Rattle.tw_shapes.specs.View.{shape_of, store_of}
use Rattle.tw_shapes.specs.declared.building.Begun.TheVariants.{Domain}
use Rattle.tw_shapes.proofs.Closing.{Reached, one-more, reached-arrow, reached-leaf}
use Rattle.tw_shapes.proofs.Views.{shape_of-Arrow, shape_of-Base, shape_of-Variable}
use Rattle.tw_shapes.proofs.bindings.Bindings.first_leaf.Goals as goal

pub returns-in-Base : goal.returns-in-Base
returns-in-Base c =
    let s = store_of c.args.self.now in
    let old = arrows_of c.args.begun.now.items in
    let new = arrows_of c.loop-family.begun.items in
    let e = ap shape_of c.in-Base.is ∙ shape_of-Base c.in-Base.family in
    let free = subst (AllVariables (λ n. value_of s n ≡ None)) (sym e) tt in
    subst (λ x. IsLeaf s old (shape_of c.args.shape.now) new (shape_of x)) c.in-Base.is
    (reached-leaf s old (shape_of c.args.shape.now) new (shape_of c.loop-family.rest.now) (shape_of c.followed.result.now) c.loop-family.invariant c.followed.ensures.same c.followed.ensures.within c.followed.ensures.shorter free)

pub returns-in-Variable : goal.returns-in-Variable
returns-in-Variable c =
    let s = store_of c.args.self.now in
    let old = arrows_of c.args.begun.now.items in
    let new = arrows_of c.loop-family.begun.items in
    let e = ap shape_of c.in-Variable.is ∙ shape_of-Variable c.in-Variable.variable in
    let none : value_of s c.in-Variable.variable.0 ≡ None = subst (IsFollowed s) e c.followed.ensures.end in
    let free = subst (AllVariables (λ n. value_of s n ≡ None)) (sym e) none in
    subst (λ x. IsLeaf s old (shape_of c.args.shape.now) new (shape_of x)) c.in-Variable.is
    (reached-leaf s old (shape_of c.args.shape.now) new (shape_of c.loop-family.rest.now) (shape_of c.followed.result.now) c.loop-family.invariant c.followed.ensures.same c.followed.ensures.within c.followed.ensures.shorter free)

pub loop-family-preserved : goal.loop-family-preserved
loop-family-preserved c =
    let s = store_of c.args.self.now in
    let old = arrows_of c.args.begun.now.items in
    let new = arrows_of c.loop-family.begun.items in
    let e = ap shape_of c.in-Arrow.is ∙ shape_of-Arrow c.in-Arrow.domain c.in-Arrow.range in
    let pushed = ap arrows_of c.in_ok-push-in-Arrow.ensures.items ∙ one-more c.loop-family.begun.items (Domain c.deref.result) ∙ ap (λ x. before (shape_of x) ∷ new) c.deref.ensures in
    let r = reached-arrow s old (shape_of c.args.shape.now) new (shape_of c.loop-family.rest.now) (shape_of c.followed.result.now) (shape_of c.in-Arrow.domain.value) (shape_of c.in-Arrow.range.value) e c.loop-family.invariant c.followed.ensures.same c.followed.ensures.within c.followed.ensures.shorter in
    subst (λ x. Reached s old (shape_of c.args.shape.now) (arrows_of c.push.new.self.items) (shape_of x)) (sym c.deref-rest.ensures) (subst (λ bs. Reached s old (shape_of c.args.shape.now) bs (shape_of c.in-Arrow.domain.value)) (sym pushed) r)
