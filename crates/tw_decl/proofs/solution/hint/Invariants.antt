use Rattle.std.proofs.Common.{Option, List, ℕ, drop}
use Rattle.tw_signature.specs.Goal.{goal_of}
use Rattle.tw_decl.specs.Solutions.{NamedBy}
use Rattle.tw_decl.proofs.solution.hint.Given as goal

-- what names the variable among those that are left, does
abbrev pub invariant-loop-variable : goal.invariant-loop-variable
invariant-loop-variable l = (h : Option (List ℕ)) → NamedBy (goal_of l.goal) l.answer (drop l.variable-index l.goal.shown.items) l.free h → NamedBy (goal_of l.goal) l.answer l.goal.shown.items l.free h
