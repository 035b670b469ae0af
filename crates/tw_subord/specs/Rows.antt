-- For each number the families below it, as they are kept.
use Rattle.std.specs.Prelude.{ℕ, List, [], ◌∷◌, ◌++◌, Bool, cond, map, get_or, Vec}
use Rattle.std.specs.List.Sorted.{IsStrictlyIncreasing}
use Rattle.std.specs.Global.{Global}
use Rattle.lf.specs.Variables.{same_number}
use Rattle.lf_checks.specs.Tests.{either, is_in}

-- those of a number, and none beyond the rows
abbrev pub row : List (List ℕ) → ℕ → List ℕ
row rows b = get_or rows b []

-- a is b, or one of its row
abbrev pub is_below : List (List ℕ) → ℕ → ℕ → Bool
is_below rows a b = either (same_number a b) (is_in a (row rows b))

abbrev pub rows_of : List (Vec ℕ Global) → List (List ℕ)
rows_of vs = map (λ v. v.items) vs

-- each row rises
abbrev pub AreAscending : List (List ℕ) → Type 0
AreAscending rows = (b : ℕ) → IsStrictlyIncreasing (row rows b)

-- the row of b, with the number a behind where a link leads from a to c and b is c
abbrev pub with_link : List (List ℕ) → ℕ → ℕ → ℕ → List ℕ
with_link rows a c b = cond (same_number c b) (row rows b ++ a ∷ []) (row rows b)
