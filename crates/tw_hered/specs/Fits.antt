-- What the calls need of their arguments: that skeletons type them.
use Rattle.std.specs.Prelude.{ℕ, List, Option, drop}
use Rattle.lf.specs.Syntax.{Term, Spine, LfType, Kind, Skeleton, base}
use Rattle.lf.specs.Substitution.{Image, single}
use Rattle.lf.specs.AtOnce.{lift_by}
use Rattle.lf.specs.SkeletonTyping.{HeadSkeletons, TermSkeleton, SpineSkeleton, TypeBySkeletons, KindBySkeletons, SubstitutionBySkeletons}

-- N, which stands outside the n newest variables, for variable n: these stay, and each variable past n comes one nearer
abbrev pub put_at : ℕ → Skeleton → Term → ℕ → Image
put_at n a N = lift_by n (single a N)

-- the term has a skeleton, and σ takes its context to another one
pub record TermFits (σ : ℕ → Image) (M : Term) : Type 0 where
  pub heads : HeadSkeletons
  pub context : List Skeleton
  pub target : List Skeleton
  pub term_skeleton : Skeleton
  pub substitution_typed : SubstitutionBySkeletons heads context target σ
  pub term_typed : TermSkeleton heads context M term_skeleton

-- the same of a spine, which takes one skeleton to another
pub record SpineFits (σ : ℕ → Image) (S : Spine) : Type 0 where
  pub heads : HeadSkeletons
  pub context : List Skeleton
  pub target : List Skeleton
  pub head_skeleton : Skeleton
  pub result_skeleton : Skeleton
  pub substitution_typed : SubstitutionBySkeletons heads context target σ
  pub spine_typed : SpineSkeleton heads context S head_skeleton result_skeleton

-- the same of a type
pub record TypeFits (σ : ℕ → Image) (A : LfType) : Type 0 where
  pub families : ℕ → Option Skeleton
  pub heads : HeadSkeletons
  pub context : List Skeleton
  pub target : List Skeleton
  pub substitution_typed : SubstitutionBySkeletons heads context target σ
  pub type_typed : TypeBySkeletons families heads context A

-- the same of a kind
pub record KindFits (σ : ℕ → Image) (K : Kind) : Type 0 where
  pub families : ℕ → Option Skeleton
  pub heads : HeadSkeletons
  pub context : List Skeleton
  pub target : List Skeleton
  pub substitution_typed : SubstitutionBySkeletons heads context target σ
  pub kind_typed : KindBySkeletons families heads context K

-- the term has this skeleton, and the spine gives it all its arguments
pub record Applies (a : Skeleton) (N : Term) (S : Spine) : Type 0 where
  pub heads : HeadSkeletons
  pub context : List Skeleton
  pub family : ℕ
  pub term_typed : TermSkeleton heads context N a
  pub spine_typed : SpineSkeleton heads context S a (base family)

-- the same of a term that stands outside the l newest variables, where the spine stands under them
pub record AppliesUnder (l : ℕ) (a : Skeleton) (N : Term) (S : Spine) : Type 0 where
  pub heads : HeadSkeletons
  pub context : List Skeleton
  pub family : ℕ
  pub term_typed : TermSkeleton heads (drop l context) N a
  pub spine_typed : SpineSkeleton heads context S a (base family)
