-- The level of a metavariable in a context: how many stand outside of it.
use Rattle.std.specs.Prelude.{◌≡◌, ℕ, suc, ◌+◌, List, length, Option, Some, None}
use Rattle.tw_abstract.specs.Positions.{index}

-- of n variables, a variable and its level; or neither
abbrev pub IsAtLevel : ℕ → Option ℕ → Option ℕ → Type 0
IsAtLevel n None None = Unit {0}
IsAtLevel n (Some i) (Some l) = n ≡ suc (i + l)
IsAtLevel n None (Some l) = ⊥
IsAtLevel n (Some i) None = ⊥

-- the table gives the levels of the metavariables of the context, and none for others
abbrev pub HasLevels : List ℕ → (ℕ → Option ℕ) → Type 0
HasLevels ns table = (m : ℕ) → IsAtLevel (length ns) (index ns m) (table m)
