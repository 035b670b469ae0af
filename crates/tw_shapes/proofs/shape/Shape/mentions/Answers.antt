use Rattle.std.proofs.Common.{◌≢◌, ap, sym, subst, ◌∙◌}
use Rattle.tw_shapes.specs.Shapes.{AllVariables, Mentions, arrow}
use Rattle.tw_shapes.specs.View.{shape_of}
use Rattle.tw_shapes.proofs.Left.{each_said, one_said, one_shorter, parts_said, parts_shorter, walk-same-as}
use Rattle.tw_shapes.proofs.Views.{shape_of-Arrow, shape_of-Base, shape_of-Variable}
use Rattle.tw_shapes.proofs.shape.Shape.mentions.Goals as goal

pub returns-then-other-variable-clause-some : goal.returns-then-other-variable-clause-some
returns-then-other-variable-clause-some c =
    let m = c.args.variable.0 in
    let e = ap shape_of c.in-Variable.is ∙ shape_of-Variable c.in-Variable.other in
    one_said c.loop-next.left.items c.pop.new.self.items c.in-Some.next c.in-Some.ensures.items (Mentions m) (AllVariables (λ n. n ≢ m)) (shape_of c.args.self.now) c.loop-next.invariant (subst (Mentions m) (sym e) c.if-other-variable.true)

pub loop-next-smaller-else-other-variable : goal.loop-next-smaller-else-other-variable
loop-next-smaller-else-other-variable c = one_shorter c.loop-next.left.items c.pop.new.self.items c.in-Some.next c.in-Some.ensures.items (λ m. 0)

pub loop-next-preserved-else-other-variable : goal.loop-next-preserved-else-other-variable
loop-next-preserved-else-other-variable c =
    let m = c.args.variable.0 in
    let e = ap shape_of c.in-Variable.is ∙ shape_of-Variable c.in-Variable.other in
    each_said c.loop-next.left.items c.pop.new.self.items c.in-Some.next c.in-Some.ensures.items (Mentions m) (AllVariables (λ n. n ≢ m)) (shape_of c.args.self.now) c.loop-next.invariant (subst (AllVariables (λ n. n ≢ m)) (sym e) c.if-other-variable.false)

pub loop-next-smaller-in-Base : goal.loop-next-smaller-in-Base
loop-next-smaller-in-Base c = one_shorter c.loop-next.left.items c.pop.new.self.items c.in-Some.next c.in-Some.ensures.items (λ m. 0)

pub loop-next-preserved-in-Base : goal.loop-next-preserved-in-Base
loop-next-preserved-in-Base c =
    let m = c.args.variable.0 in
    let e = ap shape_of c.in-Base.is ∙ shape_of-Base c.in-Base.field-0 in
    each_said c.loop-next.left.items c.pop.new.self.items c.in-Some.next c.in-Some.ensures.items (Mentions m) (AllVariables (λ n. n ≢ m)) (shape_of c.args.self.now) c.loop-next.invariant (subst (AllVariables (λ n. n ≢ m)) (sym e) tt)

pub loop-next-smaller : goal.loop-next-smaller
loop-next-smaller c =
    let e = ap shape_of c.in-Arrow.is ∙ shape_of-Arrow c.in-Arrow.domain c.in-Arrow.range in
    parts_shorter c.loop-next.left.items c.pop.new.self.items c.in-Some.next c.in-Some.ensures.items c.push-in-Arrow.new.self.items c.push-in-Arrow-2.new.self.items c.deref.result c.deref-in-Arrow.result
    (shape_of c.in-Arrow.domain.value) (shape_of c.in-Arrow.range.value) c.in_ok-push-in-Arrow.ensures.items c.in_ok-push-in-Arrow-2.ensures.items (ap shape_of c.deref-in-Arrow.ensures) (ap shape_of c.deref.ensures)
    (λ m. 0) (walk-same-as (λ m. 0) (arrow (shape_of c.in-Arrow.domain.value) (shape_of c.in-Arrow.range.value)) (shape_of c.in-Some.next.now) (sym e))

pub loop-next-preserved : goal.loop-next-preserved
loop-next-preserved c =
    let m = c.args.variable.0 in
    let U = shape_of c.in-Arrow.domain.value in
    let V = shape_of c.in-Arrow.range.value in
    let e = ap shape_of c.in-Arrow.is ∙ shape_of-Arrow c.in-Arrow.domain c.in-Arrow.range in
    parts_said c.loop-next.left.items c.pop.new.self.items c.in-Some.next c.in-Some.ensures.items c.push-in-Arrow.new.self.items c.push-in-Arrow-2.new.self.items c.deref.result c.deref-in-Arrow.result
    U V c.in_ok-push-in-Arrow.ensures.items c.in_ok-push-in-Arrow-2.ensures.items (ap shape_of c.deref-in-Arrow.ensures) (ap shape_of c.deref.ensures)
    (Mentions m) (AllVariables (λ n. n ≢ m)) (shape_of c.args.self.now) c.loop-next.invariant (λ h. subst (Mentions m) (sym e) h) (λ a b. subst (AllVariables (λ n. n ≢ m)) (sym e) (a, b))
