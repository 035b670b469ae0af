-- What the table of a pattern holds.
use Rattle.std.specs.Prelude.{◌≡◌, ◌≢◌, ℕ, ◌+◌, List, length, slice_get, Some, None}
use Rattle.tw_prune.specs.Walks.{Table}

-- The table has a place for each of `inner` variables: that of the variable in the pattern, counted from the last one, where the pattern has it.
pub record IsTableOf (xs : List ℕ) (inner : ℕ) (T : Table) : Type 0 where
  pub size : length T.places ≡ inner
  pub lambdas : T.arity ≡ length xs
  pub sound : (v j : ℕ) → slice_get T.places v ≡ Some (Some j) → (k : ℕ) × (k + j + 1 ≡ length xs) × (slice_get xs k ≡ Some v)
  pub complete : (v k : ℕ) → slice_get xs k ≡ Some v → slice_get T.places v ≢ Some None
