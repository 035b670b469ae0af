-- Equations, unifiers, stores. A binding is an equation; nothing is composed.
use Rattle.std.specs.Prelude.{◌≡◌, ℕ, List, [], ◌∷◌, Option, Some}
use Rattle.lf.specs.Syntax.{Skeleton, Term, LfType}
use Rattle.lf.specs.Typing.{Signature}
use Rattle.lf_unification.specs.Filling.{fill}
use Rattle.lf_unification.specs.OpenTyping.{IsInstance, OpenHasType, OpenIsContext, OpenIsType, skeletons_of, under_locals}

-- the sides stand in the local context, and this in the outer one
pub record Equation : Type 0 where
  pub local : List LfType
  pub left : Term
  pub right : Term
  pub of_type : LfType

-- one of the two sides of an equation
pub data Side : Type 0 where
  on_left on_right : Side

-- the equation with M on this side and N on the other: on the right it is N = M
abbrev pub equation_on : Side → List LfType → Term → Term → LfType → Equation
equation_on on_left D M N C = record { local = D; left = M; right = N; of_type = C }
equation_on on_right D M N C = record { local = D; left = N; right = M; of_type = C }

-- a metavariable and its value, which stands in the outer context
pub record Binding : Type 0 where
  pub of : ℕ
  pub value : Term

-- The metavariables with their types, the bindings with the newest in front, and the equations that are still to be solved.
pub record Store : Type 0 where
  pub metavariables : ℕ → Option LfType
  pub bindings : List Binding
  pub equations : List Equation

module _ (μ : ℕ → Skeleton) where
  -- both sides become the same text
  abbrev pub Solves : (ℕ → Option Term) → Equation → Type 0
  Solves β e = fill μ (under_locals e.local β) e.left ≡ fill μ (under_locals e.local β) e.right

  -- each equation of a list
  abbrev pub SolvesAll : (ℕ → Option Term) → List Equation → Type 0
  SolvesAll β [] = Unit {0}
  SolvesAll β (e ∷ es) = Solves β e × SolvesAll β es

  -- each metavariable that is bound has its value, filled
  abbrev pub Respects : (ℕ → Option Term) → List Binding → Type 0
  Respects β [] = Unit {0}
  Respects β (b ∷ bs) = (β b.of ≡ Some (fill μ β b.value)) × Respects β bs

-- the bindings hold, and the equations
abbrev pub Unifies : Store → (ℕ → Option Term) → Type 0
Unifies s β = Respects (skeletons_of s.metavariables) β s.bindings × SolvesAll (skeletons_of s.metavariables) β s.equations

-- a typed unifier of the store
abbrev pub Solution : Signature → List LfType → Store → List LfType → (ℕ → Option Term) → Type 0
Solution Σ G s F β = IsInstance Σ G s.metavariables F β × Unifies s β

-- the same terms for the metavariables of Ψ
abbrev pub ExtendsFilling : (ℕ → Option LfType) → (ℕ → Option Term) → (ℕ → Option Term) → Type 0
ExtendsFilling Ψ β β' = (m : ℕ) (A : LfType) → Ψ m ≡ Some A → β' m ≡ β m

-- The store's bindings are most general relative to its equations: the typed unifiers of the given equations, over the given
-- metavariables Ψ, are exactly the typed unifiers of the store, without its new metavariables.
pub record MostGeneral (Σ : Signature) (G : List LfType) (Ψ : ℕ → Option LfType) (given : List Equation) (s : Store) : Type 0 where
  pub sound : (F : List LfType) (β' : ℕ → Option Term) → Solution Σ G s F β' → (β : ℕ → Option Term) × ExtendsFilling Ψ β β' × IsInstance Σ G Ψ F β × SolvesAll (skeletons_of Ψ) β given
  pub complete : (F : List LfType) (β : ℕ → Option Term) → IsInstance Σ G Ψ F β → SolvesAll (skeletons_of Ψ) β given → (β' : ℕ → Option Term) × ExtendsFilling Ψ β β' × Solution Σ G s F β'

-- The second store has the typed unifiers of the first: each one, with values for the new metavariables, is one of the second, and
-- each one of the second, without these, is one of the first. This is what unification promises, step by step and as a whole.
pub record KeepsUnifiers (Σ : Signature) (G : List LfType) (s s' : Store) : Type 0 where
  pub grows : (m : ℕ) (A : LfType) → s.metavariables m ≡ Some A → s'.metavariables m ≡ Some A
  pub sound : (F : List LfType) (β' : ℕ → Option Term) → Solution Σ G s' F β' → (β : ℕ → Option Term) × ExtendsFilling s.metavariables β β' × Solution Σ G s F β
  pub complete : (F : List LfType) (β : ℕ → Option Term) → Solution Σ G s F β → (β' : ℕ → Option Term) × ExtendsFilling s.metavariables β β' × Solution Σ G s' F β'

-- typing of a store, up to its own unifiers
module _ (Σ : Signature) (G : List LfType) (Ψ : ℕ → Option LfType) (U : (ℕ → Option Term) → Type 0) where
  -- an equation as it is handed in: its local context and its type are typed, and both sides have the type
  pub record EquationIsFullyTyped (e : Equation) : Type 0 where
    pub local_typed : OpenIsContext Σ G Ψ U e.local
    pub type_typed : OpenIsType Σ G Ψ U e.local e.of_type
    pub left_typed : OpenHasType Σ G Ψ U e.local e.left e.of_type
    pub right_typed : OpenHasType Σ G Ψ U e.local e.right e.of_type

  -- each value has the type of its metavariable. It may mention metavariables that are bound, before it or after it.
  abbrev pub BindingsAreTyped : List Binding → Type 0
  BindingsAreTyped [] = Unit {0}
  BindingsAreTyped (b ∷ bs) = ((A : LfType) × (Ψ b.of ≡ Some A) × OpenHasType Σ G Ψ U [] b.value A) × BindingsAreTyped bs
