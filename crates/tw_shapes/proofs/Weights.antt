-- The weight of a shape, level by level, and the size of a leaf.
use Rattle.std.proofs.Common.{◌≡◌, ◌+◌, ◌*◌, Box, Global, rules, refl}
use Rattle.tw_terms.specs.declared.canonical.ConstId.{ConstId}
use Rattle.tw_shapes.specs.Dropping.{weight}
use Rattle.tw_shapes.specs.declared.shape.ShapeId.{ShapeId}
use Rattle.tw_shapes.specs.declared.shape.Shape.{Shape, Variable, Base, Arrow, size-Shape, the_lemmas}

pub weight-Variable : (m : ShapeId) → weight (Variable m) ≡ 1
unfolding weight
weight-Variable m = search (rules, the_lemmas)

pub weight-Base : (c : ConstId) → weight (Base c) ≡ 1
unfolding weight
weight-Base c = search (rules, the_lemmas)

pub weight-Arrow : (a b : Box Shape Global) → weight (Arrow a b) ≡ 2 * weight a.value + weight b.value + 1
unfolding weight
weight-Arrow a b = search (rules, the_lemmas)

pub size-Variable : (m : ShapeId) → size-Shape (Variable m) ≡ 1
unfolding Rattle.tw_shapes.specs.declared.shape.Shape.TheBlock.the_depth denote.Hole.Rolled.depth denote.Hole.Carrier.fold
size-Variable m = refl

pub size-Base : (c : ConstId) → size-Shape (Base c) ≡ 1
unfolding Rattle.tw_shapes.specs.declared.shape.Shape.TheBlock.the_depth denote.Hole.Rolled.depth denote.Hole.Carrier.fold
size-Base c = refl

pub ruleset weights = (weight-Variable, weight-Base, weight-Arrow, size-Variable, size-Base, the_lemmas)
