-- What the values of the program stand for.
use Rattle.std.specs.Prelude.{map}
use Rattle.tw_shapes.specs.Shapes as plain
use Rattle.tw_shapes.specs.declared.shape.Shape.{Shape, fold-Shape}
use Rattle.tw_shapes.specs.declared.shape.Shape.TheOpen.{Shape-F}
use Rattle.tw_shapes.specs.declared.bindings.Bindings.{Bindings}

-- one level of a shape, with each part already seen as its syntax
abbrev pub shape_step : Shape-F plain.Shape → plain.Shape
shape_step (Shape-F.Variable m) = plain.variable m.0
shape_step (Shape-F.Base c) = plain.base c.0
shape_step (Shape-F.Arrow a b) = plain.arrow a.value b.value

-- the shape that one of the program stands for
unfoldable pub shape_of : Shape → plain.Shape
shape_of = fold-Shape plain.Shape shape_step

-- and the store
abbrev pub store_of : Bindings → plain.Store
store_of b = record { places = b.places.items; values = map shape_of b.values.items }
