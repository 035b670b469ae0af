-- Open terms, typed up to a set of fillings. All metavariables stand in one outer context.
use Rattle.std.specs.Prelude.{◌≡◌, ℕ, zero, suc, List, [], ◌∷◌, Option, Some, None}
use Rattle.lf.specs.Syntax.{Head, Kind, Skeleton, Spine, Term, LfType, app, atom, constant, kind_pi, lambda, metavariable, nil, pi, root, skeleton, star, variable, weaken}
use Rattle.lf.specs.Typing.{TypeAt, HasType, IsContext, Signature, instantiate_kind, instantiate_type}
use Rattle.lf.specs.Variables.{onto}
use Rattle.lf_unification.specs.Filling.{fill_type, moved}
use Rattle.lf_unification.specs.Skeletons.{skeleton_or_default}

-- `Ψ` declares metavariables, with their types, which stand in the outer context. This gives their skeletons.
abbrev pub skeletons_of : (ℕ → Option LfType) → ℕ → Skeleton
skeletons_of Ψ m = skeleton_or_default (Ψ m)

-- the filling under the binders of a local context
abbrev pub under_locals : List LfType → (ℕ → Option Term) → ℕ → Option Term
under_locals [] β = β
under_locals (A ∷ D) β = moved suc (under_locals D β)

-- a type of the outer context, inside the local one
abbrev pub weaken_past : List LfType → LfType → LfType
weaken_past [] A = A
weaken_past (B ∷ D) A = weaken (weaken_past D A)

-- the filled local context
abbrev pub fill_locals : (ℕ → Skeleton) → (ℕ → Option Term) → List LfType → List LfType
fill_locals μ β [] = []
fill_locals μ β (A ∷ D) = fill_type μ (under_locals D β) A ∷ fill_locals μ β D

-- what is declared has a value of its filled type, and nothing else has one
abbrev pub ValueHasType : Signature → List LfType → (ℕ → Skeleton) → (ℕ → Option Term) → Option LfType → Option Term → Type 0
ValueHasType Σ F μ β None None = Unit {0}
ValueHasType Σ F μ β None (Some N) = ⊥
ValueHasType Σ F μ β (Some A) None = ⊥
ValueHasType Σ F μ β (Some A) (Some N) = HasType Σ F N (fill_type μ β A)

-- An instance: a typed context that begins, at its newest end, with the filled outer context, and a typed term in it for each metavariable.
-- The rest of the context are free variables; a closed instance has none.
pub record IsInstance (Σ : Signature) (G : List LfType) (Ψ : ℕ → Option LfType) (F : List LfType) (β : ℕ → Option Term) : Type 0 where
  pub context : IsContext Σ F
  pub outer : (i : ℕ) (A : LfType) → TypeAt G i A → TypeAt F i (fill_type (skeletons_of Ψ) β A)
  pub typed : (m : ℕ) → ValueHasType Σ F (skeletons_of Ψ) β (Ψ m) (β m)

-- Typing up to U, a set of fillings: the rules of LF, but where two types are compared they need only have the same family
-- and become the same under each filling of U. D is the local context.
module _ (Σ : Signature) (G : List LfType) (Ψ : ℕ → Option LfType) (U : (ℕ → Option Term) → Type 0) where
  -- a metavariable has its declared type, moved inside
  abbrev pub OpenHeadHasType : List LfType → Head → LfType → Type 0
  OpenHeadHasType D (constant c) A = Σ.types c ≡ Some A
  OpenHeadHasType D (variable i) A = TypeAt (onto D G) i A
  OpenHeadHasType D (metavariable m) A = (B : LfType) × (Ψ m ≡ Some B) × (A ≡ weaken_past D B)

  -- the same skeleton, and the same type under each filling of U
  abbrev pub TypesAgree : List LfType → LfType → LfType → Type 0
  TypesAgree D A C = (skeleton A ≡ skeleton C) × ((β : ℕ → Option Term) → U β → fill_type (skeletons_of Ψ) (under_locals D β) A ≡ fill_type (skeletons_of Ψ) (under_locals D β) C)

  -- the rules of terms and spines, with agreement in place of equality at the end of a spine
  abbrev mutual
    pub OpenHasType : List LfType → Term → LfType → Type 0
    OpenHasType D (lambda M) (pi A B) = OpenHasType (A ∷ D) M B
    OpenHasType D (lambda M) (atom a T) = ⊥
    OpenHasType D (root h S) (pi A B) = ⊥
    OpenHasType D (root h S) (atom a T) = (A : LfType) × OpenHeadHasType D h A × OpenSpineType D S A (atom a T)

    pub OpenSpineType : List LfType → Spine → LfType → LfType → Type 0
    OpenSpineType D nil A C = TypesAgree D A C
    OpenSpineType D (app M S) (pi A B) C = OpenHasType D M A × OpenSpineType D S (instantiate_type A M B) C
    OpenSpineType D (app M S) (atom a T) C = ⊥

  -- the arguments take the kind to `type`
  abbrev pub OpenSpineFitsKind : List LfType → Spine → Kind → Type 0
  OpenSpineFitsKind D nil (kind_pi A K) = ⊥
  OpenSpineFitsKind D nil star = Unit {0}
  OpenSpineFitsKind D (app M S) (kind_pi A K) = OpenHasType D M A × OpenSpineFitsKind D S (instantiate_kind A M K)
  OpenSpineFitsKind D (app M S) star = ⊥

  -- types and contexts, as in LF
  abbrev pub OpenIsType : List LfType → LfType → Type 0
  OpenIsType D (pi A B) = OpenIsType D A × OpenIsType (A ∷ D) B
  OpenIsType D (atom a S) = (K : Kind) × (Σ.kinds a ≡ Some K) × OpenSpineFitsKind D S K

  abbrev pub OpenIsContext : List LfType → Type 0
  OpenIsContext [] = Unit {0}
  OpenIsContext (A ∷ D) = OpenIsContext D × OpenIsType D A

  -- the outer context and the metavariables are typed up to U
  pub record DeclarationsAreTyped : Type 0 where
    pub outer_typed : (i : ℕ) (A : LfType) → TypeAt G i A → OpenIsType [] A
    pub metavariables_typed : (m : ℕ) (A : LfType) → Ψ m ≡ Some A → OpenIsType [] A

-- each metavariable of the term is in V
abbrev mutual
  pub MetavariablesIn : (ℕ → Type 0) → Term → Type 0
  MetavariablesIn V (lambda M) = MetavariablesIn V M
  MetavariablesIn V (root (constant c) S) = MetavariablesInSpine V S
  MetavariablesIn V (root (variable i) S) = MetavariablesInSpine V S
  MetavariablesIn V (root (metavariable m) S) = V m × MetavariablesInSpine V S

  pub MetavariablesInSpine : (ℕ → Type 0) → Spine → Type 0
  MetavariablesInSpine V nil = Unit {0}
  MetavariablesInSpine V (app M S) = MetavariablesIn V M × MetavariablesInSpine V S

-- the same in a type
abbrev pub MetavariablesInType : (ℕ → Type 0) → LfType → Type 0
MetavariablesInType V (pi A B) = MetavariablesInType V A × MetavariablesInType V B
MetavariablesInType V (atom a S) = MetavariablesInSpine V S

-- the metavariable has a type
abbrev pub Declares : (ℕ → Option LfType) → ℕ → Type 0
Declares Ψ m = (A : LfType) × (Ψ m ≡ Some A)

-- f, but x at n
abbrev pub set_at : {A : Type 0} → ℕ → A → (ℕ → A) → ℕ → A
set_at zero x f zero = x
set_at zero x f (suc m) = f (suc m)
set_at (suc n) x f zero = f zero
set_at (suc n) x f (suc m) = set_at n x (λ k. f (suc k)) m
