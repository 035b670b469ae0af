use Rattle.std.proofs.Common.{◌≡◌, ℕ, ◌≤◌, length}
use Rattle.lf.specs.Syntax.{Skeleton}
use Rattle.tw_shapes.specs.Shapes.{Solves, filled, IsWithin}
use Rattle.tw_shapes.specs.Order.{length_of_walk}
use Rattle.tw_shapes.specs.View.{shape_of, store_of}
use Rattle.tw_shapes.proofs.bindings.Bindings.followed.Given as goal

-- the rest is the same skeleton in each solution
abbrev pub invariant-loop-rest : goal.invariant-loop-rest
invariant-loop-rest l = record {
  same : (θ : ℕ → Skeleton) → Solves θ (store_of l.self) → filled θ (shape_of l.rest) ≡ filled θ (shape_of l.shape);
  within : IsWithin (length l.self.places.items) (shape_of l.shape) → IsWithin (length l.self.places.items) (shape_of l.rest);
  shorter : length_of_walk (store_of l.self) (shape_of l.rest) ≤ length_of_walk (store_of l.self) (shape_of l.shape);
}

abbrev pub decreases-loop-rest : goal.decreases-loop-rest
decreases-loop-rest l = length_of_walk (store_of l.self) (shape_of l.rest)
