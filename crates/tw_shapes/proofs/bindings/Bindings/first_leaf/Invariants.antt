use Rattle.tw_shapes.specs.BuildingView.{arrows_of}
use Rattle.tw_shapes.specs.Order.{length_of_walk}
use Rattle.tw_shapes.specs.View.{shape_of, store_of}
use Rattle.tw_shapes.proofs.Closing.{Reached}
use Rattle.tw_shapes.proofs.bindings.Bindings.first_leaf.Given as goal

abbrev pub invariant-loop-family : goal.invariant-loop-family
invariant-loop-family l = Reached (store_of l.self) (arrows_of l.fn.begun.items) (shape_of l.fn.shape) (arrows_of l.begun.items) (shape_of l.rest)

abbrev pub decreases-loop-family : goal.decreases-loop-family
decreases-loop-family l = length_of_walk (store_of l.self) (shape_of l.rest)
