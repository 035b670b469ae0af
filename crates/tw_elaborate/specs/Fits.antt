-- What elaboration asks of what was made so far: that skeletons type it.
use Rattle.std.specs.Prelude.{List}
use Rattle.lf.specs.SkeletonTyping.{HeadSkeletons, SpineSkeleton, TermSkeleton}
use Rattle.lf.specs.Syntax.{LfType, Skeleton, Spine, Term}
use Rattle.lf.specs.Typing.{Signature}
use Rattle.lf_elaboration.specs.Skeletons.{LocalHasSkeletons, StateHasSkeletons}
use Rattle.lf_elaboration.specs.State.{State}

-- what was made, and the local context
pub record Stands (Σ : Signature) (s : State) (D : List LfType) : Type 0 where
  pub state : StateHasSkeletons Σ s
  pub local : LocalHasSkeletons Σ s D

-- the term has this skeleton, and the spine gives it some of its arguments
pub record GivesArguments (a : Skeleton) (N : Term) (S : Spine) : Type 0 where
  pub heads : HeadSkeletons
  pub context : List Skeleton
  pub result : Skeleton
  pub term_typed : TermSkeleton heads context N a
  pub spine_typed : SpineSkeleton heads context S a result
