-- What the calls need of their arguments: that skeletons type them.
use Rattle.std.specs.Prelude.{◌≡◌, ℕ, ◌≤◌, List, [], ◌∷◌, drop, length, Option, Some, ◌⊎◌}
use Rattle.lf.specs.SkeletonTyping.{HeadSkeletons, TermSkeleton, SpineSkeleton, TypeBySkeletons}
use Rattle.lf.specs.Skeletons.{signature_skeletons, type_skeleton}
use Rattle.lf.specs.Subordination.{Member}
use Rattle.lf.specs.Syntax.{Term, Spine, LfType, Skeleton, skeleton}
use Rattle.lf.specs.Typing.{Signature}
use Rattle.lf_unification.specs.OpenTyping.{MetavariablesIn}
use Rattle.lf_unification.specs.Putting.{Unbound}
use Rattle.lf_unification.specs.Unifiers.{Binding}
use Rattle.tw_metas.specs.State.{State}
use Rattle.tw_putting.specs.Stores.{types_of, bindings_of, ValuesAreBound}

-- the skeletons of the constants of a signature, and of declared metavariables
abbrev pub declared_skeletons : Signature → (ℕ → Option LfType) → HeadSkeletons
declared_skeletons Σ Ψ = signature_skeletons Σ (λ m. type_skeleton (Ψ m))

-- The values have the skeletons of their metavariables in the outer context Γ, and nothing is bound twice.
abbrev pub BindingsBySkeletons : Signature → (ℕ → Option LfType) → List Skeleton → List Binding → Type 0
BindingsBySkeletons Σ Ψ Γ [] = Unit {0}
BindingsBySkeletons Σ Ψ Γ (b ∷ bs) =
    ((A : LfType) × (Ψ b.of ≡ Some A) × TermSkeleton (declared_skeletons Σ Ψ) Γ b.value (skeleton A))
    × Unbound bs b.of
    × BindingsBySkeletons Σ Ψ Γ bs

-- one of the bindings is for the metavariable
abbrev pub IsBoundBy : List Binding → ℕ → Type 0
IsBoundBy [] m = ⊥
IsBoundBy (b ∷ bs) m = (m ≡ b.of) ⊎ IsBoundBy bs m

-- each value mentions only metavariables that no binding of bs is for, and those that a later binding of the list is for
abbrev pub GoesDown : List Binding → List Binding → Type 0
GoesDown bs [] = Unit {0}
GoesDown bs (c ∷ cs) = MetavariablesIn (λ m. Unbound bs m ⊎ IsBoundBy cs m) c.value × GoesDown bs cs

-- The bindings can be put into each other: they have an order in which each value mentions only what is bound behind it, or not at all.
pub record HaveOrder (bs : List Binding) : Type 0 where
  pub order : List Binding
  pub count : length order ≤ length bs
  pub within : (b : Binding) → Member b order → Member b bs
  pub all : (b : Binding) → Member b bs → Member b order
  pub down : GoesDown bs order

-- the bindings of a state, in the outer context Γ
pub record StoreBySkeletons (Σ : Signature) (Γ : List Skeleton) (s : State) : Type 0 where
  pub bound : ValuesAreBound s
  pub values : BindingsBySkeletons Σ (types_of s) Γ (bindings_of s)
  pub ordered : HaveOrder (bindings_of s)

-- the term has a skeleton under k binders, and the values outside them have theirs
pub record PutFits (s : State) (k : ℕ) (M : Term) : Type 0 where
  pub signature : Signature
  pub context : List Skeleton
  pub term_skeleton : Skeleton
  pub term_typed : TermSkeleton (declared_skeletons signature (types_of s)) context M term_skeleton
  pub store_typed : StoreBySkeletons signature (drop k context) s

-- the same of a spine, which takes one skeleton to another
pub record PutSpineFits (s : State) (k : ℕ) (S : Spine) : Type 0 where
  pub signature : Signature
  pub context : List Skeleton
  pub head_skeleton : Skeleton
  pub result_skeleton : Skeleton
  pub spine_typed : SpineSkeleton (declared_skeletons signature (types_of s)) context S head_skeleton result_skeleton
  pub store_typed : StoreBySkeletons signature (drop k context) s

-- the same of a type
pub record PutTypeFits (s : State) (k : ℕ) (A : LfType) : Type 0 where
  pub families : ℕ → Option Skeleton
  pub signature : Signature
  pub context : List Skeleton
  pub type_typed : TypeBySkeletons families (declared_skeletons signature (types_of s)) context A
  pub store_typed : StoreBySkeletons signature (drop k context) s

-- the types of all metavariables can take the values
abbrev pub TypesCanTake : State → Type 0
TypesCanTake s = (m : ℕ) (A : LfType) → types_of s m ≡ Some A → PutTypeFits s 0 A
