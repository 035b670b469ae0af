use Rattle.std.proofs.Common.{map, take}
use Rattle.tw_approx.specs.Answer.{rows_of}
use Rattle.tw_approx.specs.Solving.{RowsAreAlways}
use Rattle.tw_approx.proofs.solving.solved_rows.Given as goal

abbrev pub invariant-loop-variable : goal.invariant-loop-variable
invariant-loop-variable l = RowsAreAlways l.shapes (map (λ r. (r.name, r.shape.0)) (take l.variable-index l.variables)) (rows_of l.rows.items)
