use Rattle.std.proofs.Common.{◌≢◌}
use Rattle.tw_shapes.specs.Shapes.{AllVariables, Mentions}
use Rattle.tw_shapes.specs.View.{shape_of}
use Rattle.tw_shapes.proofs.Left.{Says, shapes_left, walk_all}
use Rattle.tw_shapes.proofs.shape.Shape.mentions.Given as goal

abbrev pub invariant-loop-next : goal.invariant-loop-next
invariant-loop-next l = Says (Mentions l.variable.0) (AllVariables (λ n. n ≢ l.variable.0)) (shapes_left l.left.items) (shape_of l.self)

abbrev pub decreases-loop-next : goal.decreases-loop-next
decreases-loop-next l = walk_all (λ m. 0) (shapes_left l.left.items)
