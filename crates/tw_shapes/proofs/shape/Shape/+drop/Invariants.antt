use Rattle.std.proofs.Common.{◌≤◌, ◌<◌, ◌⊎◌}
use Rattle.tw_shapes.specs.Dropping.{weight}
use Rattle.tw_shapes.specs.declared.shape.Shape.{size-Shape}
use Rattle.tw_shapes.proofs.shape.Shape.+drop.Given as goal

abbrev pub decreases-drop : goal.decreases-drop
decreases-drop l = goal.size-drop l

-- Only a leaf is dropped by a call, and only where there were parts.
abbrev pub invariant-loop-domain : goal.invariant-loop-domain
invariant-loop-domain l = (size-Shape l.self ≤ size-Shape l.initial.self) ⊎ (1 < size-Shape l.initial.self)

abbrev pub decreases-loop-domain : goal.decreases-loop-domain
decreases-loop-domain l = weight l.self
