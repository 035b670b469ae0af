use Rattle.std.proofs.Common.{[], map, take}
use Rattle.tw_metas.specs.Named.{named_of}
use Rattle.tw_putting.specs.Whole.{AreDistinct}
use Rattle.tw_signature.specs.Goal.{goal_of}
use Rattle.tw_search.specs.Names.{NamesAll}
use Rattle.tw_search.proofs.names.names.Given as goal

abbrev pub invariant-loop-variable : goal.invariant-loop-variable
invariant-loop-variable l = record {
  named : NamesAll l.store.now (goal_of l.goal) (take l.variable-index l.goal.shown.items) [] (map named_of l.names.items);
  distinct : AreDistinct (map (λ n. n.0) (map named_of l.names.items));
}
