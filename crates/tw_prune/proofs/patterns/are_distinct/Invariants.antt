use Rattle.std.proofs.Common.{◌≡◌, drop}
use Rattle.std.specs.Prelude.{false, nat_eq}
use Rattle.std.specs.HashSet.{contains}
use Rattle.tw_prune.specs.Walks.{are_new}
use Rattle.tw_prune.proofs.patterns.are_distinct.Given as goal

abbrev pub invariant-loop-variable : goal.invariant-loop-variable
invariant-loop-variable l = are_new (contains nat_eq l.seen) l.bound (drop l.variable-index l.variables) ≡ are_new (λ y. false) l.bound l.variables
