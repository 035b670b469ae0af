use Rattle.std.proofs.Common.{◌≡◌, arith, ap, sym, subst, ◌∙◌, rules}
use Rattle.tw_shapes.specs.Shapes.{IsSettled, filled}
use Rattle.tw_shapes.specs.View.{shape_of, store_of}
use Rattle.tw_shapes.proofs.Left.{deep-some, domain-settled, range-settled, settled-closed}
use Rattle.tw_shapes.proofs.Steps.{followed-is-open}
use Rattle.tw_shapes.proofs.Views.{shape_of-Arrow}
use Rattle.tw_shapes.proofs.bindings.Bindings.+skeleton.Goals as goal

pub returns-then-levels-eq0 : goal.returns-then-levels-eq0
returns-then-levels-eq0 t c = λ θ h. let d = deep-some (filled θ (shape_of c.args.shape.now)) in let e : c.args.levels ≡ 0 = c.if-levels-eq0.true in omega (arith, d, e)

pub unreachable-requires : goal.unreachable-requires
unreachable-requires t c =
    let s = store_of c.args.self.now in
    settled-closed s (shape_of c.args.shape.now) c.requires.settled (followed-is-open s c.requires.ordered (shape_of c.args.shape.now) c.followed.result.now c.in-Variable.field-0 c.in-Variable.is c.followed.ensures.end c.followed.ensures.same)

pub skeleton-requires : goal.skeleton-requires
skeleton-requires t c =
    let s = store_of c.args.self.now in
    let e = ap shape_of c.in-Arrow.is ∙ shape_of-Arrow c.in-Arrow.domain c.in-Arrow.range in
    let whole : IsSettled s (shape_of c.followed.result.now) = (c.requires.settled.0, λ θ h. c.followed.ensures.same θ h ∙ c.requires.settled.1 θ h) in
    let part = domain-settled s (shape_of c.in-Arrow.domain.value) (shape_of c.in-Arrow.range.value) (subst (IsSettled s) e whole) in
    (first_of (search rules, grind arith), (c.requires.ordered, subst (λ x. IsSettled s (shape_of x)) (sym c.deref.ensures) part))

pub skeleton-requires-in-Arrow : goal.skeleton-requires-in-Arrow
skeleton-requires-in-Arrow t c =
    let s = store_of c.args.self.now in
    let e = ap shape_of c.in-Arrow.is ∙ shape_of-Arrow c.in-Arrow.domain c.in-Arrow.range in
    let whole : IsSettled s (shape_of c.followed.result.now) = (c.requires.settled.0, λ θ h. c.followed.ensures.same θ h ∙ c.requires.settled.1 θ h) in
    let part = range-settled s (shape_of c.in-Arrow.domain.value) (shape_of c.in-Arrow.range.value) (subst (IsSettled s) e whole) in
    (first_of (search rules, grind arith), (c.requires.ordered, subst (λ x. IsSettled s (shape_of x)) (sym c.deref-in-Arrow.ensures) part))
