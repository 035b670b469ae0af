-- What was made so far has skeletons: its metavariables have those of their types.
use Rattle.std.specs.Prelude.{◌≡◌, ℕ, ◌<◌, ◌≤◌, List, [], ◌∷◌, Some, None}
use Rattle.lf.specs.SkeletonTyping.{HeadSkeletons, KindBySkeletons, SpineSkeleton, TermSkeleton, TypeBySkeletons}
use Rattle.lf.specs.Skeletons.{family_skeletons, signature_skeletons, type_skeleton}
use Rattle.lf.specs.Syntax.{Kind, LfType, Spine, Term, kind_skeleton, skeleton}
use Rattle.lf.specs.Typing.{Signature}
use Rattle.lf_elaboration.specs.State.{State}
use Rattle.lf_unification.specs.OpenTyping.{Declares, MetavariablesInType}
use Rattle.lf_unification.specs.Patterns.{local_skeletons}
use Rattle.lf_unification.specs.Unifiers.{Equation}

-- the numbers below the next one are declared, and no others
pub record IsNumbered (s : State) : Type 0 where
  pub fresh : (m : ℕ) → s.next ≤ m → s.metavariables m ≡ None
  pub full : (m : ℕ) → m < s.next → Declares s.metavariables m

module _ (Σ : Signature) (s : State) where
  -- the skeletons of constants, and of the metavariables that are declared
  abbrev pub heads_of : HeadSkeletons
  heads_of = signature_skeletons Σ (λ m. type_skeleton (s.metavariables m))

  -- a type, a kind and a term in a local context
  abbrev pub TypeHasSkeletons : List LfType → LfType → Type 0
  TypeHasSkeletons D A = TypeBySkeletons (family_skeletons Σ) heads_of (local_skeletons D []) A

  abbrev pub KindHasSkeletons : List LfType → Kind → Type 0
  KindHasSkeletons D K = KindBySkeletons (family_skeletons Σ) heads_of (local_skeletons D []) K

  abbrev pub TermHasSkeleton : List LfType → Term → LfType → Type 0
  TermHasSkeleton D M A = TermSkeleton heads_of (local_skeletons D []) M (skeleton A)

  -- a family on a spine that takes its kind to another
  abbrev pub FamilyHasSkeletons : List LfType → ℕ → Spine → Kind → Type 0
  FamilyHasSkeletons D a S L = ((K : Kind) × (Σ.kinds a ≡ Some K) × SpineSkeleton heads_of (local_skeletons D []) S (kind_skeleton a K) (kind_skeleton a L)) × KindHasSkeletons D L

  -- the types of a local context, each in the part before it
  abbrev pub LocalHasSkeletons : List LfType → Type 0
  LocalHasSkeletons [] = Unit {0}
  LocalHasSkeletons (A ∷ D) = LocalHasSkeletons D × TypeHasSkeletons D A

  -- an equation with its local context and its type
  pub record EquationHasSkeletons (e : Equation) : Type 0 where
    pub local : LocalHasSkeletons e.local
    pub of_type : TypeHasSkeletons e.local e.of_type
    pub left : TermHasSkeleton e.local e.left e.of_type
    pub right : TermHasSkeleton e.local e.right e.of_type

  -- each equation of a list
  abbrev pub EquationsHaveSkeletons : List Equation → Type 0
  EquationsHaveSkeletons [] = Unit {0}
  EquationsHaveSkeletons (e ∷ es) = EquationHasSkeletons e × EquationsHaveSkeletons es

  -- The metavariables have skeletons, and the type of each mentions only those of smaller numbers. So have the equations.
  pub record StateHasSkeletons : Type 0 where
    pub numbered : IsNumbered s
    pub types : (m : ℕ) (A : LfType) → s.metavariables m ≡ Some A → TypeHasSkeletons [] A
    pub older : (m : ℕ) (A : LfType) → s.metavariables m ≡ Some A → MetavariablesInType (λ k. k < m) A
    pub equations : EquationsHaveSkeletons s.equations
