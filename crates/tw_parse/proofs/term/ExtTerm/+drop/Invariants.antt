use Rattle.std.proofs.Common.{◌≤◌, ◌<◌, ◌⊎◌}
use Rattle.tw_parse.specs.Dropping.{weight}
use Rattle.tw_parse.specs.declared.term.ExtTerm.{size-ExtTerm}
use Rattle.tw_parse.proofs.term.ExtTerm.+drop.Given as goal

abbrev pub decreases-drop : goal.decreases-drop
decreases-drop l = goal.size-drop l

-- Only a leaf is dropped by a call, and only where there were parts.
abbrev pub invariant-loop-part : goal.invariant-loop-part
invariant-loop-part l = (size-ExtTerm l.self ≤ size-ExtTerm l.initial.self) ⊎ (1 < size-ExtTerm l.initial.self)

abbrev pub decreases-loop-part : goal.decreases-loop-part
decreases-loop-part l = weight l.self
