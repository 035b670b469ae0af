use Rattle.std.proofs.Common.{◌≡◌, ◌+◌}
use Rattle.tw_shapes.specs.Building.{put_into, size, size_left}
use Rattle.tw_shapes.specs.BuildingView.{arrows_of}
use Rattle.tw_shapes.specs.View.{shape_of}
use Rattle.tw_shapes.proofs.shape.Shape.copy.Given as goal

abbrev pub invariant-loop-begun : goal.invariant-loop-begun
invariant-loop-begun l = put_into (arrows_of l.begun.items) (shape_of l.rest) ≡ shape_of l.fn.self

abbrev pub decreases-loop-begun : goal.decreases-loop-begun
decreases-loop-begun l = size (shape_of l.rest) + size_left (arrows_of l.begun.items)
