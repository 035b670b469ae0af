-- What is kept of a store while values are bound one after another.
use Rattle.std.specs.Prelude.{◌≡◌, ℕ, List, None, Some, length, slice_get}
use Rattle.lf.specs.Entries.{Entry, signature_of}
use Rattle.lf.specs.SkeletonTyping.{HeadSkeletons, TermSkeleton}
use Rattle.lf.specs.Syntax.{Skeleton, Term, skeleton}
use Rattle.lf_unification.specs.OpenTyping.{MetavariablesIn}
use Rattle.lf_unification.specs.Putting.{Unbound}
use Rattle.tw_metas.specs.State.{Declaration, State, value_of}
use Rattle.tw_putting.specs.Fits.{StoreBySkeletons, declared_skeletons}
use Rattle.tw_putting.specs.Stores.{BoundHaveValues, bindings_of, types_of}

-- the skeletons of constants and metavariables
abbrev pub heads_of : List Entry → State → HeadSkeletons
heads_of σ s = declared_skeletons (signature_of σ) (types_of s)

-- skeletons type the values, which stand in the context Γ; each metavariable has a place for its value, and what counts as bound has one
pub record IsBound (σ : List Entry) (Γ : List Skeleton) (s : State) : Type 0 where
  pub typed : StoreBySkeletons (signature_of σ) Γ s
  pub bound : BoundHaveValues s
  pub places : length s.values ≡ length s.declared

-- what holds of the values of the first store holds of those of the second
abbrev pub KeepsBound : State → State → Type 0
KeepsBound s t = (σ : List Entry) (Γ : List Skeleton) → IsBound σ Γ s → IsBound σ Γ t

-- it is another metavariable than this one, and not bound
abbrev pub IsFree : State → ℕ → ℕ → Type 0
IsFree s m n = (n ≡ m → ⊥) × Unbound (bindings_of s) n

-- the metavariable has no value, and may have this one: it is of the skeleton of its type, and mentions only others without a value
pub record MayHave (σ : List Entry) (Γ : List Skeleton) (s : State) (m : ℕ) (M : Term) : Type 0 where
  pub declaration : Declaration
  pub is_declared : slice_get s.declared m ≡ Some declaration
  pub has_none : value_of s m ≡ None
  pub typed : TermSkeleton (heads_of σ s) Γ M (skeleton declaration.of_type)
  pub others : MetavariablesIn (IsFree s m) M
