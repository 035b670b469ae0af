use Rattle.std.proofs.Common.{map, take}
use Rattle.tw_approx.specs.Solving.{AreAlways}
use Rattle.tw_terms.specs.View.{skeleton_of}
use Rattle.tw_approx.proofs.solving.solved_all.Given as goal

abbrev pub invariant-loop-variable : goal.invariant-loop-variable
invariant-loop-variable l = AreAlways l.shapes (map (λ m. m.0) (take l.variable-index l.variables)) (map skeleton_of l.skeletons.items)
