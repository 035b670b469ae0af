-- What is moved to another order of the variables, as the code does it.
use Rattle.std.specs.Prelude.{ℕ, suc, ◌+◌, ◌-◌, List, [], ◌∷◌, length, slice_get, Option, Some, None}
use Rattle.lf.specs.Syntax.{LfType, rename_type}
use Rattle.tw_abstract.specs.Positions.{index}

abbrev pub or_itself : ℕ → Option ℕ → ℕ
or_itself i (Some j) = j
or_itself i None = i

-- where the order puts variable i
abbrev pub place_in : List ℕ → ℕ → ℕ
place_in order i = or_itself i (index order i)

-- the same of a variable of a type that stands `shift` variables further out, seen from `less` further out
abbrev pub moved : List ℕ → ℕ → ℕ → ℕ → ℕ
moved order shift less i = place_in order (i + shift) - less

-- one type more in front
abbrev pub with_type : List ℕ → ℕ → ℕ → Option LfType → List LfType → List LfType
with_type order v less (Some A) G = rename_type (moved order (suc v) less) A ∷ G
with_type order v less None G = G

-- The types of these variables in front of others, the outermost of them behind.
abbrev pub moved_types : List LfType → List ℕ → List ℕ → List LfType → List LfType
moved_types F order [] G = G
moved_types F order (v ∷ vs) G = moved_types F order vs (with_type order v (suc (length vs)) (slice_get F v) G)
