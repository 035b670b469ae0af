use Rattle.std.proofs.Common.{length}
use Rattle.tw_shapes.specs.Order.{walk_below}
use Rattle.tw_shapes.specs.Shapes.{IsOpen, IsSettled}
use Rattle.tw_shapes.specs.View.{shape_of, store_of}
use Rattle.tw_shapes.proofs.Left.{Says, shapes_left, walk_all}
use Rattle.tw_shapes.proofs.bindings.Bindings.is_settled.Given as goal

abbrev pub invariant-loop-next : goal.invariant-loop-next
invariant-loop-next l = Says (IsOpen (store_of l.self)) (IsSettled (store_of l.self)) (shapes_left l.left.items) (shape_of l.shape)

abbrev pub decreases-loop-next : goal.decreases-loop-next
decreases-loop-next l = walk_all (walk_below (store_of l.self) (length (store_of l.self).values)) (shapes_left l.left.items)
