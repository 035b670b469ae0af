use Rattle.std.proofs.Common.{◌≡◌, ◌++◌, drop}
use Rattle.tw_shown.specs.Shown.{outside}
use Rattle.tw_shown.proofs.naming.outside.Given as goal

abbrev pub invariant-loop-variable : goal.invariant-loop-variable
invariant-loop-variable l = l.outer.items ++ outside l.count (drop l.variable-index l.shown) ≡ outside l.count l.shown
