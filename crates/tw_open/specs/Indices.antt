-- The arguments of two atoms of one family, side by side.
use Rattle.std.specs.Prelude.{◌≡◌, ℕ, List, [], ◌∷◌, Option}
use Rattle.lf.specs.SkeletonTyping.{HeadSkeletons, KindBySkeletons, SpineSkeleton}
use Rattle.lf.specs.Syntax.{Kind, LfType, Skeleton, Spine, Term, kind_pi, kind_skeleton}
use Rattle.lf.specs.Typing.{instantiate_kind}
use Rattle.lf_elaboration.specs.State.{differing}
use Rattle.lf_unification.specs.Lists.{followed}
use Rattle.lf_unification.specs.Patterns.{local_skeletons}
use Rattle.lf_unification.specs.Unifiers.{Equation}
use Rattle.tw_open.specs.declared.indices.Wanted.{Wanted}
use Rattle.tw_open.specs.declared.indices.Wanted.TheVariants.{Differing, Every}

-- skeletons type the kind in the local context, and the arguments, as far as they go
pub record IndicesFit (D : List LfType) (K : Kind) (S : Spine) : Type 0 where
  pub families : ℕ → Option Skeleton
  pub heads : HeadSkeletons
  pub family : ℕ
  pub result : Skeleton
  pub kind_typed : KindBySkeletons families heads (local_skeletons D []) K
  pub spine_typed : SpineSkeleton heads (local_skeletons D []) S (kind_skeleton family K) result

-- those that are wanted
abbrev pub wanted_of : Wanted → List Equation → List Equation
wanted_of Every es = es
wanted_of Differing es = differing es

-- the kind K takes M, whose equation with N was added, where it is wanted, and L is left
pub record TakesBoth (w : Wanted) (D : List LfType) (K : Kind) (M N : Term) (L : Kind) (old new : List Equation) : Type 0 where
  pub domain : LfType
  pub range : Kind
  pub is : K ≡ kind_pi domain range
  pub added : new ≡ followed old (wanted_of w (record { local = D; left = M; right = N; of_type = domain } ∷ []))
  pub left_over : L ≡ instantiate_kind domain M range
