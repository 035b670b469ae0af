use Rattle.std.proofs.Common.{◌≡◌, length, reverse}
use Rattle.tw_shapes.specs.Order.{without_bindings}
use Rattle.tw_shapes.specs.View.{store_of}
use Rattle.tw_shapes.proofs.bindings.Bindings.undo.Given as goal

abbrev pub invariant-bound : goal.invariant-bound
invariant-bound l = without_bindings (store_of l.self) (reverse l.bound.items) ≡ without_bindings (store_of l.fn.self) (reverse l.fn.bound.items)

abbrev pub decreases-bound : goal.decreases-bound
decreases-bound l = length l.bound.items
