-- Terms in environments, typed by skeletons over what a frame fixes: the skeletons of heads, and the context in which the results stand.
use Rattle.std.specs.Prelude.{◌≡◌, ℕ, List, drop, Option, Some}
use Rattle.lf.specs.SkeletonTyping.{HeadSkeletons, TermSkeleton, SpineSkeleton, TypeBySkeletons}
use Rattle.lf.specs.Syntax.{Term, Spine, LfType, Skeleton, base}
use Rattle.lf.specs.Typing.{Signature}
use Rattle.lf_closures.specs.Environments.{Environment, value_in, applied_in}
use Rattle.lf_closures.specs.Typing.{EnvironmentFits}
use Rattle.lf_unification.specs.OpenTyping.{skeletons_of}
use Rattle.lf_unification.specs.Skeletons.{as_head_skeletons, total_skeletons}
use Rattle.tw_metas.specs.State.{State, value_of}
use Rattle.tw_putting.specs.Fits.{StoreBySkeletons}
use Rattle.tw_putting.specs.Stores.{types_of}

pub record Frame : Type 0 where
  pub heads : HeadSkeletons
  pub target : List Skeleton

-- the term has a skeleton in a context that the environment takes to the target
pub record InFrame (f : Frame) (e : Environment) (M : Term) : Type 0 where
  pub context : List Skeleton
  pub term_skeleton : Skeleton
  pub environment_fits : EnvironmentFits f.heads e context f.target
  pub term_typed : TermSkeleton f.heads context M term_skeleton

pub record SpineInFrame (f : Frame) (e : Environment) (S : Spine) : Type 0 where
  pub context : List Skeleton
  pub head_skeleton : Skeleton
  pub result_skeleton : Skeleton
  pub environment_fits : EnvironmentFits f.heads e context f.target
  pub spine_typed : SpineSkeleton f.heads context S head_skeleton result_skeleton

pub record TypeInFrame (f : Frame) (e : Environment) (A : LfType) : Type 0 where
  pub families : ℕ → Option Skeleton
  pub context : List Skeleton
  pub environment_fits : EnvironmentFits f.heads e context f.target
  pub type_typed : TypeBySkeletons families f.heads context A

-- the term N in e has the skeleton a, and the spine S in c gives it all its arguments
pub record AppliesInFrame (f : Frame) (a : Skeleton) (N : Term) (e : Environment) (S : Spine) (c : Environment) : Type 0 where
  pub context : List Skeleton
  pub arguments_context : List Skeleton
  pub family : ℕ
  pub environment_fits : EnvironmentFits f.heads e context f.target
  pub term_typed : TermSkeleton f.heads context N a
  pub arguments_fit : EnvironmentFits f.heads c arguments_context f.target
  pub spine_typed : SpineSkeleton f.heads arguments_context S a (base family)

-- in each frame in which N applies to S, the term M in d is typed, and is the result
pub record Enters (a : Skeleton) (N : Term) (e : Environment) (S : Spine) (c : Environment) (M : Term) (d : Environment) : Type 0 where
  pub typed : (f : Frame) → AppliesInFrame f a N e S c → InFrame f d M
  pub value : (f : Frame) → AppliesInFrame f a N e S c → value_in d M ≡ applied_in a N e S c

-- the metavariables have their declared skeletons in the frame, and the values, outside k binders, have theirs
pub record StoreInFrame (s : State) (k : ℕ) (f : Frame) : Type 0 where
  pub signature : Signature
  pub same_heads : f.heads ≡ as_head_skeletons (total_skeletons signature (skeletons_of (types_of s)))
  pub store_typed : StoreBySkeletons signature (drop k f.target) s

-- a term in an environment, under k binders, in a frame in which the values have their skeletons, where a metavariable has one
pub record WalkFits (s : State) (k : ℕ) (e : Environment) (M : Term) : Type 0 where
  pub frame : Frame
  pub store_fits : (m : ℕ) (N : Term) → value_of s m ≡ Some N → StoreInFrame s k frame
  pub term_fits : InFrame frame e M

pub record WalkSpineFits (s : State) (k : ℕ) (e : Environment) (S : Spine) : Type 0 where
  pub frame : Frame
  pub store_fits : (m : ℕ) (N : Term) → value_of s m ≡ Some N → StoreInFrame s k frame
  pub spine_fits : SpineInFrame frame e S

pub record WalkTypeFits (s : State) (k : ℕ) (e : Environment) (A : LfType) : Type 0 where
  pub frame : Frame
  pub store_fits : (m : ℕ) (N : Term) → value_of s m ≡ Some N → StoreInFrame s k frame
  pub type_fits : TypeInFrame frame e A
