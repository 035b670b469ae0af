use Rattle.std.proofs.Common.{map, take}
use Rattle.tw_signature.specs.Goal.{goal_of}
use Rattle.tw_decl.specs.Solutions.{AreHints}
use Rattle.tw_decl.proofs.solution.hints_of.Given as goal

-- those so far
abbrev pub invariant-loop-free : goal.invariant-loop-free
invariant-loop-free l = AreHints (goal_of l.goal) l.answer (map (λ m. m.0) (take l.free-index l.order)) l.hints.items
