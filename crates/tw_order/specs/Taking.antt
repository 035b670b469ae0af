-- The types of heads, and types and kinds that take arguments.
use Rattle.std.specs.Prelude.{◌≡◌, ℕ, List, Bool, true, Option, Some, None}
use Rattle.lf.specs.Substitution.{single}
use Rattle.lf.specs.Syntax.{Head, constant, variable, metavariable, Term, Spine, LfType, pi, atom, Kind, kind_pi, star, skeleton}
use Rattle.lf.specs.Typing.{HasType, HeadHasType, IsContext, IsKind, IsSignature, IsType, Signature, SpineFitsKind, SpineType, TypeAt, instantiate_kind, instantiate_type}
use Rattle.tw_hered.specs.Fits.{KindFits, TypeFits}

-- what there is of P, or that there is nothing
abbrev pub IsFound : {X : Type 0} → (X → Type 0) → Option X → Type 0
IsFound P (Some x) = P x
IsFound {X = X} P None = (x : X) → P x → ⊥

-- the type of a head in whose arguments smaller terms stand: a constant, or a variable of R
abbrev pub IsPassable : Signature → List LfType → (ℕ → Bool) → Head → LfType → Type 0
IsPassable Σ C R (constant c) A = Σ.types c ≡ Some A
IsPassable Σ C R (variable i) A = (R i ≡ true) × TypeAt C i A
IsPassable Σ C R (metavariable m) A = ⊥

-- skeletons allow the argument N
abbrev pub Takes : LfType → Term → Type 0
Takes (pi A B) N = TypeFits (single (skeleton A) N) B
Takes (atom a S) N = Unit {0}

abbrev pub KindTakes : Kind → Term → Type 0
KindTakes (kind_pi A K) N = KindFits (single (skeleton A) N) K
KindTakes star N = Unit {0}

-- what is left: of `{x:nat} vec x` with z it is `vec z`; an atom takes nothing
abbrev pub type_past : Term → LfType → LfType
type_past N (pi A B) = instantiate_type A N B
type_past N (atom a S) = atom a S

abbrev pub kind_past : Term → Kind → Kind
kind_past N (kind_pi A K) = instantiate_kind A N K
kind_past N star = star

-- a typed term, in a context
pub record TermStands (Σ : Signature) (C : List LfType) (N : Term) (A : LfType) : Type 0 where
  pub signature : IsSignature Σ
  pub context : IsContext Σ C
  pub is_type : IsType Σ C A
  pub typed : HasType Σ C N A

-- the arguments of a head of type T
pub record SpineStands (Σ : Signature) (C : List LfType) (S : Spine) (T : LfType) : Type 0 where
  pub signature : IsSignature Σ
  pub context : IsContext Σ C
  pub is_type : IsType Σ C T
  pub result : LfType
  pub typed : SpineType Σ C S T result

-- a head with its arguments
pub record RootStands (Σ : Signature) (C : List LfType) (h : Head) (S : Spine) : Type 0 where
  pub signature : IsSignature Σ
  pub context : IsContext Σ C
  pub head : LfType
  pub has_type : HeadHasType Σ C h head
  pub result : LfType
  pub typed : SpineType Σ C S head result

-- the arguments of a family of kind K
pub record KindSpineStands (Σ : Signature) (C : List LfType) (S : Spine) (K : Kind) : Type 0 where
  pub signature : IsSignature Σ
  pub context : IsContext Σ C
  pub is_kind : IsKind Σ C K
  pub typed : SpineFitsKind Σ C S K
