use Rattle.std.proofs.Common.{◌≡◌, reverse}
use Rattle.tw_shapes.specs.Equations.{IsRound}
use Rattle.tw_shapes.specs.Order.{count_unbound, without_bindings}
use Rattle.tw_shapes.specs.View.{store_of}
use Rattle.tw_shapes.specs.EquationView.{equations_of}
use Rattle.tw_shapes.proofs.equations.settle.Given as goal

abbrev pub invariant-rounds : goal.invariant-rounds
invariant-rounds l = record {
  round : IsRound (store_of l.fn.bindings) (store_of l.bindings) (equations_of l.fn.pending.items) (equations_of l.pending.items);
  before : without_bindings (store_of l.bindings) (reverse l.bound.items) ≡ without_bindings (store_of l.fn.bindings) (reverse l.fn.bound.items);
}

abbrev pub decreases-rounds : goal.decreases-rounds
decreases-rounds l = count_unbound l.bindings.places.items
