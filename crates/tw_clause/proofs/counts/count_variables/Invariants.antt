use Rattle.std.proofs.Common.{◌≡◌, ◌++◌, drop}
use Rattle.tw_clause.specs.Numbers.{counts_from}
use Rattle.tw_clause.proofs.counts.count_variables.Given as goal

-- the counts so far, and those of the rest
abbrev pub invariant-loop-is_variable : goal.invariant-loop-is_variable
invariant-loop-is_variable l = l.counts.items ++ counts_from l.count (drop l.is_variable-index l.shape) ≡ counts_from 0 l.shape
