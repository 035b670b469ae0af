use Rattle.std.proofs.Common.{◌≡◌, ◌+◌, ◌<◌, None, length, ap, sym, ◌∙◌}
use Rattle.tw_shapes.specs.Building.{closed, length_left, next, whole}
use Rattle.tw_shapes.specs.BuildingView.{arrows_of, built_of}
use Rattle.tw_shapes.specs.Order.{length_of_walk, walk_below}
use Rattle.tw_shapes.specs.Shapes.{filled, value_of}
use Rattle.tw_shapes.specs.View.{shape_of, store_of}
use Rattle.tw_shapes.proofs.Closing.{next-all, next-left, next-put, next-smaller, whole-all, whole-put}
use Rattle.tw_shapes.proofs.bindings.Bindings.resolved.Goals as goal

pub returns-in-Whole-clause-same : goal.returns-in-Whole-clause-same
returns-in-Whole-clause-same c =
    let bs = arrows_of c.first_leaf.new.begun.items in
    let cs = arrows_of c.close.new.begun.items in
    let S = shape_of c.in_ok-leaf.leaf in
    let e : (cs, whole (shape_of c.in-Whole.resolved)) ≡ closed bs S = ap (λ b. (cs, built_of b)) (sym c.in-Whole.is) ∙ c.in_ok-resolved.ensures in
    λ θ h. ap (filled θ) (whole-put bs cs S (shape_of c.in-Whole.resolved) e) ∙ (c.in_ok-leaf.ensures.same θ h ∙ c.loop-begun.invariant.same θ h)

pub returns-in-Whole-clause-free : goal.returns-in-Whole-clause-free
returns-in-Whole-clause-free c =
    let bs = arrows_of c.first_leaf.new.begun.items in
    let cs = arrows_of c.close.new.begun.items in
    let S = shape_of c.in_ok-leaf.leaf in
    let e : (cs, whole (shape_of c.in-Whole.resolved)) ≡ closed bs S = ap (λ b. (cs, built_of b)) (sym c.in-Whole.is) ∙ c.in_ok-resolved.ensures in
    let leaf = c.in_ok-leaf.ensures in
    whole-all bs cs S (shape_of c.in-Whole.resolved) e (λ n. value_of (store_of c.args.self.now) n ≡ None) (leaf.built c.loop-begun.invariant.free) leaf.free

pub returns-in-Whole-clause-within : goal.returns-in-Whole-clause-within
returns-in-Whole-clause-within c =
    let bs = arrows_of c.first_leaf.new.begun.items in
    let cs = arrows_of c.close.new.begun.items in
    let S = shape_of c.in_ok-leaf.leaf in
    let e : (cs, whole (shape_of c.in-Whole.resolved)) ≡ closed bs S = ap (λ b. (cs, built_of b)) (sym c.in-Whole.is) ∙ c.in_ok-resolved.ensures in
    let leaf = c.in_ok-leaf.ensures in
    let i = c.loop-begun.invariant in
    whole-all bs cs S (shape_of c.in-Whole.resolved) e (λ n. n < length c.args.self.now.places.items) (leaf.built_within i.built_within) (leaf.left_within i.left_within i.within).1

pub loop-begun-smaller : goal.loop-begun-smaller
loop-begun-smaller c =
    let s = store_of c.args.self.now in
    let bs = arrows_of c.first_leaf.new.begun.items in
    let cs = arrows_of c.close.new.begun.items in
    let S = shape_of c.in_ok-leaf.leaf in
    let e : (cs, next (shape_of c.in-Next.range.now)) ≡ closed bs S = ap (λ b. (cs, built_of b)) (sym c.in-Next.is) ∙ c.in_ok-resolved.ensures in
    let leaf = c.in_ok-leaf.ensures in
    next-smaller bs cs S (shape_of c.in-Next.range.now) e (walk_below s (length s.values)) (length_of_walk s (shape_of c.loop-begun.rest.now) + length_left s (arrows_of c.loop-begun.begun.items)) leaf.shorter

pub loop-begun-preserved : goal.loop-begun-preserved
loop-begun-preserved c =
    let bs = arrows_of c.first_leaf.new.begun.items in
    let cs = arrows_of c.close.new.begun.items in
    let S = shape_of c.in_ok-leaf.leaf in
    let T = shape_of c.in-Next.range.now in
    let e : (cs, next T) ≡ closed bs S = ap (λ b. (cs, built_of b)) (sym c.in-Next.is) ∙ c.in_ok-resolved.ensures in
    let leaf = c.in_ok-leaf.ensures in
    let i = c.loop-begun.invariant in
    let w = leaf.left_within i.left_within i.within in
    let n = next-left bs cs S T e (λ n. n < length c.args.self.now.places.items) w.0 in
    record {
      same = λ θ h. ap (filled θ) (next-put bs cs S T e) ∙ (leaf.same θ h ∙ i.same θ h);
      free = next-all bs cs S T e (λ n. value_of (store_of c.args.self.now) n ≡ None) (leaf.built i.free) leaf.free;
      built_within = next-all bs cs S T e (λ n. n < length c.args.self.now.places.items) (leaf.built_within i.built_within) w.1;
      left_within = n.1;
      within = n.0;
    }
