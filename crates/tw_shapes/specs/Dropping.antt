-- A shape taken apart, and how much is left to drop of one.
use Rattle.std.specs.Prelude.{ℕ, ◌+◌, ◌*◌}
use Rattle.tw_shapes.specs.declared.shape.Shape.{Shape, Variable, Base, Arrow, fold-Shape}
use Rattle.tw_shapes.specs.declared.shape.Shape.TheOpen.{Shape-F}
use Rattle.tw_shapes.specs.declared.shape.Parts.{Parts}
use Rattle.tw_shapes.specs.declared.shape.Parts.TheVariants as parts

-- the shape that is put together of these parts
abbrev pub whole_of : Parts → Shape
whole_of (parts.Variable m) = Variable m
whole_of (parts.Base c) = Base c
whole_of (parts.Arrow a b) = Arrow a b

-- the domain counts twice, since its own parts are put behind one another
abbrev pub weight_step : Shape-F ℕ → ℕ
weight_step (Shape-F.Variable m) = 1
weight_step (Shape-F.Base c) = 1
weight_step (Shape-F.Arrow a b) = 2 * a.value + b.value + 1

unfoldable pub weight : Shape → ℕ
weight = fold-Shape ℕ weight_step
