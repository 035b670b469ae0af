use Rattle.std.proofs.Common.{map, take}
use Rattle.tw_approx.specs.Solving.{AreSettled, numbers_of}
use Rattle.tw_approx.proofs.solving.rows_are_settled.Given as goal

abbrev pub invariant-loop-variable : goal.invariant-loop-variable
invariant-loop-variable l = AreSettled l.shapes (numbers_of (map (λ r. (r.name, r.shape.0)) (take l.variable-index l.variables)))
