-- The table of a pattern as it is filled.
use Rattle.std.proofs.Common.{◌≡◌, ℕ, ◌+◌, ◌<◌, List, length, Option, Some, None}
use Rattle.std.specs.Prelude.{◌≢◌, slice_get}

-- as the table of a pattern, for its first `count` variables
pub record IsPartTable (xs : List ℕ) (inner count : ℕ) (places : List (Option ℕ)) : Type 0 where
  pub size : length places ≡ inner
  pub sound : (v j : ℕ) → slice_get places v ≡ Some (Some j) → (k : ℕ) × (k + j + 1 ≡ length xs) × (slice_get xs k ≡ Some v)
  pub complete : (v k : ℕ) → k < count → slice_get xs k ≡ Some v → slice_get places v ≢ Some None
