-- Skeletons where every metavariable has one.
use Rattle.std.specs.Prelude.{ℕ, List, Option, Some, None}
use Rattle.lf.specs.SkeletonTyping.{HeadSkeletons, TermSkeleton}
use Rattle.lf.specs.Skeletons.{type_skeleton}
use Rattle.lf.specs.Syntax.{Skeleton, Term, LfType, base, skeleton}
use Rattle.lf.specs.Typing.{Signature}

-- the skeleton of a declared metavariable; what is not declared has one that is never used
abbrev pub skeleton_or_default : Option LfType → Skeleton
skeleton_or_default (Some A) = skeleton A
skeleton_or_default None = base 0

-- the skeletons of constants, and of all metavariables
pub record TotalSkeletons : Type 0 where
  pub constant_skeleton : ℕ → Option Skeleton
  pub metavariable_skeleton : ℕ → Skeleton

-- as the rules of LF take them
abbrev pub as_head_skeletons : TotalSkeletons → HeadSkeletons
as_head_skeletons κ = record { constant_skeleton = κ.constant_skeleton; metavariable_skeleton = λ m. Some (κ.metavariable_skeleton m) }

-- the constants of a signature, and metavariables whose skeletons `μ` gives
abbrev pub total_skeletons : Signature → (ℕ → Skeleton) → TotalSkeletons
total_skeletons Σ μ = record { constant_skeleton = λ c. type_skeleton (Σ.types c); metavariable_skeleton = μ }

-- the value has the skeleton, where there is one
abbrev pub ValueFits : TotalSkeletons → List Skeleton → Option Term → Skeleton → Type 0
ValueFits κ Γ None a = Unit {0}
ValueFits κ Γ (Some N) a = TermSkeleton (as_head_skeletons κ) Γ N a

-- the values of the filling have the skeletons of their metavariables
abbrev pub FillsBySkeletons : TotalSkeletons → List Skeleton → (ℕ → Option Term) → Type 0
FillsBySkeletons κ Γ β = (m : ℕ) → ValueFits κ Γ (β m) (κ.metavariable_skeleton m)
