use Rattle.std.proofs.Common.{◌≡◌, ◌+◌, ◌≤◌}
use Rattle.tw_shapes.specs.Building.{put_into, size, size_left}
use Rattle.tw_shapes.specs.BuildingView.{arrows_of}
use Rattle.tw_shapes.specs.View.{shape_of}
use Rattle.tw_shapes.proofs.shape.Shape.first_leaf.Given as goal

abbrev pub invariant-loop-rest : goal.invariant-loop-rest
invariant-loop-rest l = record {
  same : put_into (arrows_of l.begun.items) (shape_of l.rest) ≡ put_into (arrows_of l.fn.begun.items) (shape_of l.fn.self);
  smaller : size (shape_of l.rest) + size_left (arrows_of l.begun.items) ≤ size (shape_of l.fn.self) + size_left (arrows_of l.fn.begun.items);
}

abbrev pub decreases-loop-rest : goal.decreases-loop-rest
decreases-loop-rest l = size (shape_of l.rest)
