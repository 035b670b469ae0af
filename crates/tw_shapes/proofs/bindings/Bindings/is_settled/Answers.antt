use Rattle.std.proofs.Common.{length, ap, sym, subst, ◌∙◌}
use Rattle.tw_shapes.specs.Order.{walk_below}
use Rattle.tw_shapes.specs.Shapes.{IsOpen, IsSettled, arrow}
use Rattle.tw_shapes.specs.View.{shape_of, store_of}
use Rattle.tw_shapes.proofs.Left.{arrow-open, arrow-settled, base-settled, each_said, one_said, one_shorter, parts_said, parts_shorter, same-open, same-settled, walk-at-most}
use Rattle.tw_shapes.proofs.Steps.{followed-is-open}
use Rattle.tw_shapes.proofs.Views.{shape_of-Arrow, shape_of-Base}
use Rattle.tw_shapes.proofs.bindings.Bindings.is_settled.Goals as goal

pub loop-next-smaller-in-Base : goal.loop-next-smaller-in-Base
loop-next-smaller-in-Base c = one_shorter c.loop-next.left.items c.pop.new.self.items c.in-Some.next c.in-Some.ensures.items (walk_below (store_of c.args.self.now) (length (store_of c.args.self.now).values))

pub loop-next-preserved-in-Base : goal.loop-next-preserved-in-Base
loop-next-preserved-in-Base c =
    let s = store_of c.args.self.now in
    let e = ap shape_of c.in-Base.is ∙ shape_of-Base c.in-Base.field-0 in
    each_said c.loop-next.left.items c.pop.new.self.items c.in-Some.next c.in-Some.ensures.items (IsOpen s) (IsSettled s) (shape_of c.args.shape.now) c.loop-next.invariant
    (same-settled s (shape_of c.in-Some.next.now) (shape_of c.followed.result.now) c.followed.ensures.same (subst (IsSettled s) (sym e) (base-settled s c.in-Base.field-0.0)))

pub returns-in-Variable : goal.returns-in-Variable
returns-in-Variable c =
    let s = store_of c.args.self.now in
    one_said c.loop-next.left.items c.pop.new.self.items c.in-Some.next c.in-Some.ensures.items (IsOpen s) (IsSettled s) (shape_of c.args.shape.now) c.loop-next.invariant
    (followed-is-open s c.requires (shape_of c.in-Some.next.now) c.followed.result.now c.in-Variable.field-0 c.in-Variable.is c.followed.ensures.end c.followed.ensures.same)

pub loop-next-smaller : goal.loop-next-smaller
loop-next-smaller c =
    let s = store_of c.args.self.now in
    let e = ap shape_of c.in-Arrow.is ∙ shape_of-Arrow c.in-Arrow.domain c.in-Arrow.range in
    parts_shorter c.loop-next.left.items c.pop.new.self.items c.in-Some.next c.in-Some.ensures.items c.push-in-Arrow.new.self.items c.push-in-Arrow-2.new.self.items c.deref.result c.deref-in-Arrow.result
    (shape_of c.in-Arrow.domain.value) (shape_of c.in-Arrow.range.value) c.in_ok-push-in-Arrow.ensures.items c.in_ok-push-in-Arrow-2.ensures.items (ap shape_of c.deref-in-Arrow.ensures) (ap shape_of c.deref.ensures)
    (walk_below s (length (store_of c.args.self.now).values)) (walk-at-most (walk_below s (length (store_of c.args.self.now).values)) (arrow (shape_of c.in-Arrow.domain.value) (shape_of c.in-Arrow.range.value)) (shape_of c.followed.result.now) (shape_of c.in-Some.next.now) (sym e) c.followed.ensures.shorter)

pub loop-next-preserved : goal.loop-next-preserved
loop-next-preserved c =
    let s = store_of c.args.self.now in
    let U = shape_of c.in-Arrow.domain.value in
    let V = shape_of c.in-Arrow.range.value in
    let e = ap shape_of c.in-Arrow.is ∙ shape_of-Arrow c.in-Arrow.domain c.in-Arrow.range in
    parts_said c.loop-next.left.items c.pop.new.self.items c.in-Some.next c.in-Some.ensures.items c.push-in-Arrow.new.self.items c.push-in-Arrow-2.new.self.items c.deref.result c.deref-in-Arrow.result
    U V c.in_ok-push-in-Arrow.ensures.items c.in_ok-push-in-Arrow-2.ensures.items (ap shape_of c.deref-in-Arrow.ensures) (ap shape_of c.deref.ensures)
    (IsOpen s) (IsSettled s) (shape_of c.args.shape.now) c.loop-next.invariant
    (λ h. same-open s (shape_of c.in-Some.next.now) (shape_of c.followed.result.now) c.followed.ensures.same (subst (IsOpen s) (sym e) (arrow-open s U V h)))
    (λ a b. same-settled s (shape_of c.in-Some.next.now) (shape_of c.followed.result.now) c.followed.ensures.same (subst (IsSettled s) (sym e) (arrow-settled s U V a b)))
