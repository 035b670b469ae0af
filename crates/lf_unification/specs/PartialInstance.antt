-- Fillings of which the typing is known in part; and the set of fillings up to which a store is typed.
use Rattle.std.specs.Prelude.{ℕ, List, [], ◌∷◌, Option, Some, None}
use Rattle.lf.specs.SkeletonTyping.{TermSkeleton, TypeBySkeletons}
use Rattle.lf.specs.Skeletons.{context_skeletons, family_skeletons}
use Rattle.lf.specs.Syntax.{Skeleton, Term, LfType, skeleton}
use Rattle.lf.specs.Typing.{TypeAt, Signature}
use Rattle.lf_unification.specs.Filling.{fill_type}
use Rattle.lf_unification.specs.OpenTyping.{DeclarationsAreTyped, MetavariablesIn, MetavariablesInType, OpenHasType, ValueHasType, skeletons_of}
use Rattle.lf_unification.specs.Patterns.{local_skeletons}
use Rattle.lf_unification.specs.Skeletons.{as_head_skeletons, total_skeletons}
use Rattle.lf_unification.specs.Unifiers.{BindingsAreTyped, Equation, Store, Unifies}

-- what is declared has a value of its skeleton, and nothing else has one
abbrev pub ValueBySkeletons : Signature → List LfType → (ℕ → Skeleton) → Option LfType → Option Term → Type 0
ValueBySkeletons Σ F μ None None = Unit {0}
ValueBySkeletons Σ F μ None (Some N) = ⊥
ValueBySkeletons Σ F μ (Some A) None = ⊥
ValueBySkeletons Σ F μ (Some A) (Some N) = TermSkeleton (as_head_skeletons (total_skeletons Σ μ)) (context_skeletons F) N (skeleton A)

-- the value has no metavariable
abbrev pub ValueIsPlain : Option Term → Type 0
ValueIsPlain None = Unit {0}
ValueIsPlain (Some N) = MetavariablesIn (λ m. ⊥) N

-- an instance that is typed only at the metavariables of V, and elsewhere by skeletons
pub record PartialInstance (Σ : Signature) (G : List LfType) (Ψ : ℕ → Option LfType) (V : ℕ → Type 0) (F : List LfType) (β : ℕ → Option Term) : Type 0 where
  pub context : (i : ℕ) (A : LfType) → TypeAt F i A → TypeBySkeletons (family_skeletons Σ) (as_head_skeletons (total_skeletons Σ (skeletons_of Ψ))) (context_skeletons F) A
  pub outer : (i : ℕ) (A : LfType) → TypeAt G i A → TypeAt F i (fill_type (skeletons_of Ψ) β A)
  pub by_skeletons : (m : ℕ) → ValueBySkeletons Σ F (skeletons_of Ψ) (Ψ m) (β m)
  pub typed : (m : ℕ) → V m → ValueHasType Σ F (skeletons_of Ψ) β (Ψ m) (β m)
  -- neither the context nor the values have metavariables
  pub plain_context : (i : ℕ) (A : LfType) → TypeAt F i A → MetavariablesInType (λ m. ⊥) A
  pub plain_values : (m : ℕ) → ValueIsPlain (β m)

-- The fillings up to which the store s is typed: they unify it, and are typed by skeletons over some context.
abbrev pub IsFilling : Signature → List LfType → Store → (ℕ → Option Term) → Type 0
IsFilling Σ G s β = (F : List LfType) × PartialInstance Σ G s.metavariables (λ m. ⊥) F β × Unifies s β

-- What typing up to U asks of local contexts and of the types of sides: that they are typed by skeletons, at each filling.
module _ (Σ : Signature) (G : List LfType) (Ψ : ℕ → Option LfType) (U : (ℕ → Option Term) → Type 0) where
  -- of a type in the local context
  abbrev pub TypeBySkeletonsUpTo : List LfType → LfType → Type 0
  TypeBySkeletonsUpTo D A = (F : List LfType) (β : ℕ → Option Term) → PartialInstance Σ G Ψ (λ m. ⊥) F β → U β → TypeBySkeletons (family_skeletons Σ) (as_head_skeletons (total_skeletons Σ (skeletons_of Ψ))) (local_skeletons D (context_skeletons F)) A

  -- of each type of a local context
  abbrev pub LocalBySkeletonsUpTo : List LfType → Type 0
  LocalBySkeletonsUpTo [] = Unit {0}
  LocalBySkeletonsUpTo (A ∷ D) = LocalBySkeletonsUpTo D × TypeBySkeletonsUpTo D A

  -- of an equation; both sides have its type up to U
  pub record EquationIsTyped (e : Equation) : Type 0 where
    pub local_typed : LocalBySkeletonsUpTo e.local
    pub type_typed : TypeBySkeletonsUpTo e.local e.of_type
    pub left_typed : OpenHasType Σ G Ψ U e.local e.left e.of_type
    pub right_typed : OpenHasType Σ G Ψ U e.local e.right e.of_type

  -- of each equation of a list
  abbrev pub EquationsAreTyped : List Equation → Type 0
  EquationsAreTyped [] = Unit {0}
  EquationsAreTyped (e ∷ es) = EquationIsTyped e × EquationsAreTyped es

-- The store is typed up to its fillings.
pub record IsTypedStore (Σ : Signature) (G : List LfType) (s : Store) : Type 0 where
  pub declarations_typed : DeclarationsAreTyped Σ G s.metavariables (IsFilling Σ G s)
  pub bindings_typed : BindingsAreTyped Σ G s.metavariables (IsFilling Σ G s) s.bindings
  pub equations_typed : EquationsAreTyped Σ G s.metavariables (IsFilling Σ G s) s.equations
