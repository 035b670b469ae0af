-- The free metavariables of a store in an order of dependency.
use Rattle.std.specs.Prelude.{ℕ, List, [], ◌∷◌, ◌++◌, Option, Some, None}
use Rattle.lf.specs.Syntax.{Term}
use Rattle.lf_unification.specs.Dependency.{ListedMetavariable}

-- only a free one is added, as the innermost
abbrev pub add_inner : Option Term → ℕ → List ℕ → List ℕ
add_inner None m ms = ms ++ m ∷ []
add_inner (Some N) m ms = ms

-- the free ones, the outermost first
abbrev pub free_metavariables : List ListedMetavariable → List ℕ
free_metavariables [] = []
free_metavariables (it ∷ is) = add_inner it.value it.of (free_metavariables is)
