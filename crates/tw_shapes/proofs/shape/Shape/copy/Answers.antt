use Rattle.std.proofs.Common.{◌≡◌, ◌+◌, ap, sym, ◌∙◌}
use Rattle.tw_shapes.specs.Building.{closed, next, size, size_left, whole}
use Rattle.tw_shapes.specs.BuildingView.{arrows_of, built_of}
use Rattle.tw_shapes.specs.View.{shape_of}
use Rattle.tw_shapes.proofs.Closing.{next-put, next-smaller, whole-put}
use Rattle.tw_shapes.proofs.shape.Shape.copy.Goals as goal

pub returns-in-Whole : goal.returns-in-Whole
returns-in-Whole c =
    let bs = arrows_of c.first_leaf.new.begun.items in
    let cs = arrows_of c.close.new.begun.items in
    let S = shape_of c.in_ok-leaf.leaf in
    let e : (cs, whole (shape_of c.in-Whole.copy)) ≡ closed bs S = ap (λ b. (cs, built_of b)) (sym c.in-Whole.is) ∙ c.in_ok-copy.ensures in
    whole-put bs cs S (shape_of c.in-Whole.copy) e ∙ (c.in_ok-leaf.ensures.same ∙ c.loop-begun.invariant)

pub loop-begun-smaller : goal.loop-begun-smaller
loop-begun-smaller c =
    let bs = arrows_of c.first_leaf.new.begun.items in
    let cs = arrows_of c.close.new.begun.items in
    let S = shape_of c.in_ok-leaf.leaf in
    let e : (cs, next (shape_of c.in-Next.range.now)) ≡ closed bs S = ap (λ b. (cs, built_of b)) (sym c.in-Next.is) ∙ c.in_ok-copy.ensures in
    next-smaller bs cs S (shape_of c.in-Next.range.now) e (λ m. 0) (size (shape_of c.loop-begun.rest.now) + size_left (arrows_of c.loop-begun.begun.items)) c.in_ok-leaf.ensures.smaller

pub loop-begun-preserved : goal.loop-begun-preserved
loop-begun-preserved c =
    let bs = arrows_of c.first_leaf.new.begun.items in
    let cs = arrows_of c.close.new.begun.items in
    let S = shape_of c.in_ok-leaf.leaf in
    let e : (cs, next (shape_of c.in-Next.range.now)) ≡ closed bs S = ap (λ b. (cs, built_of b)) (sym c.in-Next.is) ∙ c.in_ok-copy.ensures in
    next-put bs cs S (shape_of c.in-Next.range.now) e ∙ (c.in_ok-leaf.ensures.same ∙ c.loop-begun.invariant)
