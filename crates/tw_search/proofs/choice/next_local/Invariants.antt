use Rattle.std.proofs.Common.{◌≡◌, drop}
use Rattle.tw_search.specs.Choosing.{locals_for}
use Rattle.tw_search.proofs.choice.next_local.Given as goal

-- those from the first one on are those from this one on
abbrev pub invariant-loop-variable : goal.invariant-loop-variable
invariant-loop-variable l = locals_for l.family.0 l.fn.from (drop l.fn.from l.locals) ≡ locals_for l.family.0 l.variable (drop l.variable l.locals)
