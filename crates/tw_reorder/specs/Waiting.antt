-- The variables of a context in order of first occurrence, and what each of them needs.
use Rattle.std.specs.Prelude.{ℕ, zero, suc, ◌+◌, List, [], ◌∷◌, ◌++◌, length, map, slice_get, Option, Some, None}
use Rattle.lf.specs.Syntax.{LfType, Term}
use Rattle.tw_abstract.specs.Occurrences.{noted}
use Rattle.tw_abstract.specs.Order.{Waiting}
use Rattle.tw_reorder.specs.Variables.{type_variables, variables, variables_of_all}

-- the variables in the type of variable v, each once, counted in the whole context
abbrev pub needs_in : ℕ → Option LfType → List ℕ
needs_in v (Some A) = map (λ i. i + suc v) (noted [] (type_variables 0 A))
needs_in v None = []

abbrev pub needs : List LfType → ℕ → List ℕ
needs F v = needs_in v (slice_get F v)

-- it waits for these
abbrev pub waiting : List LfType → ℕ → Waiting
waiting F v = record { of = v; needs = needs F v }

abbrev pub needs_at : List LfType → Option ℕ → List ℕ
needs_at F (Some v) = needs F v
needs_at F None = []

-- In the types of n variables, from the k-th on, one after the other: those that come in too.
abbrev pub through_types : List LfType → ℕ → ℕ → List ℕ → List ℕ
through_types F zero k vs = vs
through_types F (suc n) k vs = through_types F n (suc k) (noted vs (needs_at F (slice_get vs k)))

-- n variables, the outermost first
abbrev pub outermost_first : ℕ → List ℕ
outermost_first zero = []
outermost_first (suc n) = n ∷ outermost_first n

-- All variables of the context: those of the list, as they come first; then those in the types of the variables so far; and then the others.
abbrev pub in_turn : List LfType → List ℕ → List ℕ
in_turn F vs = noted (through_types F (length F) 0 (noted [] vs)) (outermost_first (length F))

-- the variables of a type, of a term and then of others
abbrev pub occurring : LfType → Term → List Term → List ℕ
occurring A M Ms = type_variables 0 A ++ (variables 0 M ++ variables_of_all Ms)

-- All variables of the context in order of first occurrence, each with what it needs. Over X : nat, Y : k X and Z : nat the type `q Z Y` has Z, Y and X.
abbrev pub waiting_in : List LfType → LfType → Term → List Term → List Waiting
waiting_in F A M Ms = map (waiting F) (in_turn F (occurring A M Ms))
