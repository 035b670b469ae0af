use Rattle.std.proofs.Common.{◌≡◌, length}
use Rattle.tw_shapes.specs.Building.{closed}
use Rattle.tw_shapes.specs.BuildingView.{arrows_of}
use Rattle.tw_shapes.specs.View.{shape_of}
use Rattle.tw_shapes.proofs.building.close.Given as goal

abbrev pub invariant-loop-arrow : goal.invariant-loop-arrow
invariant-loop-arrow l = closed (arrows_of l.begun.items) (shape_of l.part) ≡ closed (arrows_of l.fn.begun.items) (shape_of l.fn.part)

abbrev pub decreases-loop-arrow : goal.decreases-loop-arrow
decreases-loop-arrow l = length l.begun.items
