-- Skeletons with variables, and what solves equations between them.
use Rattle.std.specs.Prelude.{◌≡◌, ◌≢◌, ℕ, ◌<◌, ◌⊎◌, ◌↔◌, Bool, true, false, List, [], ◌∷◌, ◌++◌, length, Option, Some, None, slice_get, slice_set}
use Rattle.lf.specs.Syntax.{Skeleton, base as base_skeleton, arrow as arrow_skeleton}
use Rattle.tw_shapes.specs.Depth.{skeleton_depth}

-- A shape is a skeleton in which a variable may stand for what isn't written.
pub data Shape : Type 0 where
  variable : ℕ → Shape
  base : ℕ → Shape
  arrow : Shape → Shape → Shape

-- a fact of each variable of a shape
abbrev pub AllVariables : (ℕ → Type 0) → Shape → Type 0
AllVariables P (variable m) = P m
AllVariables P (base c) = Unit {0}
AllVariables P (arrow S T) = AllVariables P S × AllVariables P T

-- a shape of the first `count` variables
abbrev pub IsWithin : ℕ → Shape → Type 0
IsWithin count S = AllVariables (λ m. m < count) S

-- the variable stands in the shape
abbrev pub Mentions : ℕ → Shape → Type 0
Mentions m (variable n) = n ≡ m
Mentions m (base c) = ⊥
Mentions m (arrow S T) = Mentions m S ⊎ Mentions m T

-- An assignment gives each variable a skeleton. The skeleton that a shape is under it:
abbrev pub filled : (ℕ → Skeleton) → Shape → Skeleton
filled θ (variable m) = θ m
filled θ (base c) = base_skeleton c
filled θ (arrow S T) = arrow_skeleton (filled θ S) (filled θ T)

-- A store of variables: the place of each one's binding, if it is bound, and the bindings in the order in which they were made.
pub record Store : Type 0 where
  pub places : List (Option ℕ)
  pub values : List Shape

-- no variables
abbrev pub empty_store : Store
empty_store = record { places = []; values = [] }

-- one variable more, which isn't bound
abbrev pub with_variable : Store → Store
with_variable s = record { places = s.places ++ None ∷ []; values = s.values }

-- a variable bound
abbrev pub with_binding : Store → ℕ → Shape → Store
with_binding s m S = record { places = slice_set s.places m (Some (length s.values)); values = s.values ++ S ∷ [] }

-- how many variables it has
abbrev pub count_of : Store → ℕ
count_of s = length s.places

-- the value that there is, if any
abbrev pub joined : {A : Type 0} → Option (Option A) → Option A
joined (Some x) = x
joined None = None

-- what stands at a place, if there is one
abbrev pub value_at : List Shape → Option ℕ → Option Shape
value_at values (Some p) = slice_get values p
value_at values None = None

-- the place of a variable's binding, if it is bound
abbrev pub place_of : Store → ℕ → Option ℕ
place_of s m = joined (slice_get s.places m)

-- what a variable is bound to, if it is
abbrev pub value_of : Store → ℕ → Option Shape
value_of s m = value_at s.values (place_of s m)

-- An assignment solves a store where each binding holds.
pub record Solves (θ : ℕ → Skeleton) (s : Store) : Type 0 where
  pub holds : (m : ℕ) (S : Shape) → value_of s m ≡ Some S → θ m ≡ filled θ S

-- some assignment solves it
abbrev pub HasSolution : Store → Type 0
HasSolution s = (θ : ℕ → Skeleton) × Solves θ s

-- the same assignments solve both
abbrev pub SameSolutions : Store → Store → Type 0
SameSolutions s t = (θ : ℕ → Skeleton) → Solves θ s ↔ Solves θ t

-- Each solution of the new store is one of the old.
abbrev pub OnlyNarrows : Store → Store → Type 0
OnlyNarrows old new = (θ : ℕ → Skeleton) → Solves θ new → Solves θ old

-- As many variables; the solutions of the new store are those of the old one that make both sides equal.
pub record AddsEquation (old new : Store) (S T : Shape) : Type 0 where
  pub count : count_of new ≡ count_of old
  pub solutions : (θ : ℕ → Skeleton) → Solves θ new ↔ (Solves θ old × (filled θ S ≡ filled θ T))

-- No solution of the store makes both sides equal.
abbrev pub AreApart : Store → Shape → Shape → Type 0
AreApart s S T = (θ : ℕ → Skeleton) → Solves θ s → filled θ S ≢ filled θ T

-- what unification says: where it can be done of the new store, and where it can't of the old one, which stays
abbrev pub Unifies : Store → Store → Shape → Shape → Bool → Type 0
Unifies old new S T true = AddsEquation old new S T
Unifies old new S T false = AreApart old S T × (new ≡ old)

-- Each solution makes the shape this skeleton.
abbrev pub IsAlways : Store → Shape → Skeleton → Type 0
IsAlways s S k = (θ : ℕ → Skeleton) → Solves θ s → filled θ S ≡ k

-- Two solutions make the shape two skeletons.
pub record IsOpen (s : Store) (S : Shape) : Type 0 where
  pub first : ℕ → Skeleton
  pub second : ℕ → Skeleton
  pub first_solves : Solves first s
  pub second_solves : Solves second s
  pub differ : filled first S ≢ filled second S

-- Each solution makes the shape the same skeleton.
abbrev pub IsSettled : Store → Shape → Type 0
IsSettled s S = (k : Skeleton) × IsAlways s S k

-- Each solution makes the shape a skeleton that is deeper than so many levels.
abbrev pub IsDeeper : ℕ → Store → Shape → Type 0
IsDeeper levels s S = (θ : ℕ → Skeleton) → Solves θ s → levels < skeleton_depth (filled θ S)

-- No binding speaks of this variable: what an assignment gives it doesn't matter.
pub record IsUnused (s : Store) (m : ℕ) : Type 0 where
  pub any : (θ ρ : ℕ → Skeleton) → ((n : ℕ) → n ≢ m → ρ n ≡ θ n) → Solves θ s → Solves ρ s
