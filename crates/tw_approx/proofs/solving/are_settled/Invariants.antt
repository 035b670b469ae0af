use Rattle.std.proofs.Common.{map, take}
use Rattle.tw_approx.specs.Solving.{AreSettled}
use Rattle.tw_approx.proofs.solving.are_settled.Given as goal

abbrev pub invariant-loop-variable : goal.invariant-loop-variable
invariant-loop-variable l = AreSettled l.shapes (map (λ m. m.0) (take l.variable-index l.variables))
