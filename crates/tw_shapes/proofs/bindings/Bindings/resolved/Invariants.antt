use Rattle.std.proofs.Common.{◌≡◌, ℕ, ◌+◌, ◌<◌, length, None}
use Rattle.lf.specs.Syntax.{Skeleton}
use Rattle.tw_shapes.specs.Building.{AllBuilt, AllLeft, length_left, put_into}
use Rattle.tw_shapes.specs.BuildingView.{arrows_of}
use Rattle.tw_shapes.specs.Order.{length_of_walk}
use Rattle.tw_shapes.specs.Shapes.{IsWithin, Solves, filled, value_of}
use Rattle.tw_shapes.specs.View.{shape_of, store_of}
use Rattle.tw_shapes.proofs.bindings.Bindings.resolved.Given as goal

-- the whole is the same in each solution; what is built is of free variables, and what is left is of the store
abbrev pub invariant-loop-begun : goal.invariant-loop-begun
invariant-loop-begun l = record {
  same : (θ : ℕ → Skeleton) → Solves θ (store_of l.self) → filled θ (put_into (arrows_of l.begun.items) (shape_of l.rest)) ≡ filled θ (shape_of l.shape);
  free : AllBuilt (λ n. value_of (store_of l.self) n ≡ None) (arrows_of l.begun.items);
  built_within : AllBuilt (λ n. n < length l.self.places.items) (arrows_of l.begun.items);
  left_within : AllLeft (λ n. n < length l.self.places.items) (arrows_of l.begun.items);
  within : IsWithin (length l.self.places.items) (shape_of l.rest);
}

abbrev pub decreases-loop-begun : goal.decreases-loop-begun
decreases-loop-begun l = length_of_walk (store_of l.self) (shape_of l.rest) + length_left (store_of l.self) (arrows_of l.begun.items)
