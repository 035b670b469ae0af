-- The plain syntax of a shape, level by level.
use Rattle.std.proofs.Common.{◌≡◌, Box, Global, rules}
use Rattle.std.proofs.lemmas.Grind.{common_steps}
use Rattle.tw_terms.proofs.Views.{skeleton_views}
use Rattle.tw_terms.specs.declared.canonical.ConstId.{ConstId}
use Rattle.tw_shapes.specs.Shapes.{variable, base, arrow}
use Rattle.tw_shapes.specs.View.{shape_of}
use Rattle.tw_shapes.specs.declared.shape.ShapeId.{ShapeId}
use Rattle.tw_shapes.specs.declared.shape.Shape.{Shape, Variable, Base, Arrow, the_lemmas}

pub shape_of-Variable : (m : ShapeId) → shape_of (Variable m) ≡ variable m.0
unfolding shape_of
shape_of-Variable m = search (rules, the_lemmas)

pub shape_of-Base : (c : ConstId) → shape_of (Base c) ≡ base c.0
unfolding shape_of
shape_of-Base c = search (rules, the_lemmas)

pub shape_of-Arrow : (a b : Box Shape Global) → shape_of (Arrow a b) ≡ arrow (shape_of a.value) (shape_of b.value)
unfolding shape_of
shape_of-Arrow a b = search (rules, the_lemmas)

pub ruleset shape_views = (shape_of-Variable, shape_of-Base, shape_of-Arrow, the_lemmas)

-- for functions over shapes
pub ruleset shapes = (common_steps, shape_views, skeleton_views)
