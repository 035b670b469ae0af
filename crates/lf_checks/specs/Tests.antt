-- Tests put together: or, and, one of two types.
use Rattle.std.specs.Prelude.{ℕ, List, [], ◌∷◌, Bool, true, false}
use Rattle.lf.specs.Variables.{same_number}

-- or
abbrev pub either : Bool → Bool → Bool
either true b = true
either false b = b

-- and
abbrev pub both : Bool → Bool → Bool
both true b = b
both false b = false

-- the first type where the test holds, else the second
abbrev pub choose : Bool → Type 0 → Type 0 → Type 0
choose true A B = A
choose false A B = B

-- the number is one of the list
abbrev pub is_in : ℕ → List ℕ → Bool
is_in y [] = false
is_in y (x ∷ xs) = either (same_number y x) (is_in y xs)
