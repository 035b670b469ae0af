-- Which variable of a context a metavariable becomes.
use Rattle.std.specs.Prelude.{ℕ, List, [], ◌∷◌, length, Option, Some, None, ◌==◌, cond}

-- the first that there is
abbrev pub first_of : {A : Type 0} → Option A → Option A → Option A
first_of (Some x) y = Some x
first_of None y = y

-- The context's metavariables, the outermost first. The last one is variable 0; of a metavariable that stands there twice the inner place counts.
abbrev pub index : List ℕ → ℕ → Option ℕ
index [] m = None
index (n ∷ ns) m = first_of (index ns m) (cond (n == m) (Some (length ns)) None)
