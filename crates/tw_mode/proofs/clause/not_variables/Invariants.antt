use Rattle.std.proofs.Common.{◌≡◌, [], map, take}
use Rattle.std.specs.Prelude.{not}
use Rattle.tw_mode.specs.Solved.{after_all}
use Rattle.tw_mode.proofs.clause.not_variables.Given as goal

abbrev pub invariant-loop : goal.invariant-loop
invariant-loop l = l.marks.items ≡ after_all l.counter []

abbrev pub invariant-loop-is_variable : goal.invariant-loop-is_variable
invariant-loop-is_variable l = l.marks.items ≡ after_all l.outside (map not (take l.is_variable-index l.shape))
