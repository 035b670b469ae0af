-- Going over a text with shape variables in place of what isn't written: the state, and what each part of the walk says of the readings of the text.
use Rattle.std.specs.Prelude.{◌≡◌, ℕ, ◌<◌, ◌≤◌, List, [], ◌∷◌, ◌++◌, map, drop, Option, None, Some, ◌⊎◌, ◌↔◌, if◌then◌else◌}
use Rattle.std.specs.Str.{bytes_eq}
use Rattle.lf.specs.Syntax.{Skeleton}
use Rattle.tw_approx.specs.Readings.{Reading}
use Rattle.tw_approx.specs.Skeletons.{Frees}
use Rattle.tw_fixity.specs.Names.{Names}
use Rattle.tw_shapes.specs.Shapes.{Shape, filled, IsWithin, Store, empty_store, count_of, Solves}

-- the skeleton of each shape variable
abbrev pub Assignment : Type 0
Assignment = ℕ → Skeleton

-- the free variables so far with their shape variables, the newest first
abbrev pub Variables : Type 0
Variables = List (List ℕ × ℕ)

-- the names of the variables in scope, and their shapes; the store; the free variables; the shape variables of what else isn't written
pub record State : Type 0 where
  pub names : Names
  pub context : List Shape
  pub store : Store
  pub variables : Variables
  pub omitted : List ℕ

abbrev pub empty_state : State
empty_state = record { names = []; context = []; store = empty_store; variables = []; omitted = [] }

-- the shape variable of a free variable
abbrev pub variable_named : Variables → List ℕ → Option ℕ
variable_named [] x = None
variable_named ((y, m) ∷ xs) x = if bytes_eq y x then Some m else variable_named xs x

abbrev pub HasVariable : List ℕ → Variables → Type 0
HasVariable x [] = ⊥
HasVariable x ((y, m) ∷ xs) = (y ≡ x) ⊎ HasVariable x xs

-- each name has one
abbrev pub NamesDiffer : Variables → Type 0
NamesDiffer [] = Unit {0}
NamesDiffer ((y, m) ∷ xs) = (HasVariable y xs → ⊥) × NamesDiffer xs

-- the free variables have the skeletons of their shape variables
abbrev pub Agrees : Frees → Assignment → Variables → Type 0
Agrees f θ [] = Unit {0}
Agrees f θ ((x, m) ∷ xs) = (f x ≡ θ m) × Agrees f θ xs

-- two assignments give the first `count` variables the same
abbrev pub SameBelow : ℕ → Assignment → Assignment → Type 0
SameBelow count θ ρ = (m : ℕ) → m < count → θ m ≡ ρ m

-- all of the first `count` variables
abbrev pub ShapesWithin : ℕ → List Shape → Type 0
ShapesWithin count [] = Unit {0}
ShapesWithin count (S ∷ G) = IsWithin count S × ShapesWithin count G

abbrev pub VariablesWithin : ℕ → Variables → Type 0
VariablesWithin count [] = Unit {0}
VariablesWithin count ((x, m) ∷ xs) = (m < count) × VariablesWithin count xs

abbrev pub NumbersWithin : ℕ → List ℕ → Type 0
NumbersWithin count [] = Unit {0}
NumbersWithin count (m ∷ ms) = (m < count) × NumbersWithin count ms

-- the skeletons that shapes are
abbrev pub filled_all : Assignment → List Shape → List Skeleton
filled_all θ G = map (filled θ) G

-- what is in the state is of its store's variables, and each free variable has one
pub record IsSound (s : State) : Type 0 where
  pub context : ShapesWithin (count_of s.store) s.context
  pub variables : VariablesWithin (count_of s.store) s.variables
  pub omitted : NumbersWithin (count_of s.store) s.omitted
  pub differ : NamesDiffer s.variables

-- a reading for each choice of the free variables' skeletons, and for each assignment, which tells the skeletons of the variables in scope
abbrev pub Readings : Type 0 → Type 0
Readings A = Frees → Assignment → List Skeleton → Reading A

-- The walk from s to t found the value, and the free variables F. The solutions of the store are now the readings: each gives one, and each reading is given by one that
-- was a solution before, but for the new variables.
pub record Reads {A : Type 0} (R : Readings A) (F : List ℕ → Type 0) (s t : State) (value : Assignment → A) : Type 0 where
  pub names : t.names ≡ s.names
  pub context : t.context ≡ s.context
  pub count : count_of s.store ≤ count_of t.store
  pub sound : IsSound t
  pub kept : (θ : Assignment) → Solves θ t.store → Solves θ s.store
  pub agrees : (f : Frees) (θ : Assignment) → Agrees f θ t.variables → Agrees f θ s.variables
  pub free : (x : List ℕ) → HasVariable x t.variables ↔ (HasVariable x s.variables ⊎ F x)
  pub more : List ℕ
  pub added : t.omitted ≡ s.omitted ++ more
  pub stable : (θ ρ : Assignment) → SameBelow (count_of t.store) θ ρ → value θ ≡ value ρ
  pub reads : (f : Frees) (θ : Assignment) (o : List Skeleton) → Solves θ t.store → Agrees f θ t.variables → R f θ (map θ more ++ o) ≡ Some (value θ, o)
  pub every : (f : Frees) (θ : Assignment) (p : List Skeleton) (k : A) (q : List Skeleton) → Solves θ s.store → Agrees f θ s.variables → R f θ p ≡ Some (k, q)
      → (ρ : Assignment) × SameBelow (count_of s.store) θ ρ × Solves ρ t.store × Agrees f ρ t.variables × (p ≡ map ρ more ++ q) × (k ≡ value ρ)

-- There is no reading.
pub record Refuses {A : Type 0} (R : Readings A) (s : State) : Type 0 where
  pub never : (f : Frees) (θ : Assignment) (p : List Skeleton) (k : A) (q : List Skeleton) → Solves θ s.store → Agrees f θ s.variables → R f θ p ≡ Some (k, q) → ⊥

-- the value is a shape
pub record ReadsShape (R : Readings Skeleton) (F : List ℕ → Type 0) (s t : State) (S : Shape) : Type 0 where
  pub reading : Reads R F s t (λ θ. filled θ S)
  pub within : IsWithin (count_of t.store) S

-- under one more variable
abbrev pub inside : Option (List ℕ) → Shape → State → State
inside x S s = record { names = x ∷ s.names; context = S ∷ s.context; store = s.store; variables = s.variables; omitted = s.omitted }

-- outside of the innermost
abbrev pub outside : State → State
outside s = record { names = drop 1 s.names; context = drop 1 s.context; store = s.store; variables = s.variables; omitted = s.omitted }

-- with another store
abbrev pub with_store : Store → State → State
with_store store s = record { names = s.names; context = s.context; store = store; variables = s.variables; omitted = s.omitted }

-- no free variable is found
abbrev pub Nothing : List ℕ → Type 0
Nothing x = ⊥
