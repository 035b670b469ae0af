-- Where patterns and terms stand.
use Rattle.std.specs.Prelude.{◌≡◌, ℕ, ◌+◌, List, length, Option, Some}
use Rattle.lf.specs.Eta.{arity}
use Rattle.lf.specs.SkeletonTyping.{HeadSkeletons, TermSkeleton}
use Rattle.lf.specs.Syntax.{LfType, Skeleton, Term}
use Rattle.lf_unification.specs.Inversion.{IsPattern}
use Rattle.lf_unification.specs.OpenTyping.{skeletons_of}
use Rattle.lf_unification.specs.Patterns.{local_skeletons}

-- D is a local context of `inner` variables, and xs is a pattern in it at the skeleton t
pub record StandsIn (inner : ℕ) (D : List LfType) (t : Skeleton) (xs : List ℕ) : Type 0 where
  pub count : length D ≡ inner
  pub is_pattern : IsPattern D t xs

-- the skeletons of constants, and of metavariables as Ψ declares them
abbrev pub skeletons_over : (ℕ → Option Skeleton) → (ℕ → Option LfType) → HeadSkeletons
skeletons_over constants Ψ = record { constant_skeleton = constants; metavariable_skeleton = λ m. Some (skeletons_of Ψ m) }

-- the term has a skeleton in the local context D, before whatever outer context
pub record HasSkeleton (Ψ : ℕ → Option LfType) (D : List LfType) (N : Term) : Type 0 where
  pub constants : ℕ → Option Skeleton
  pub outer : List Skeleton
  pub of_skeleton : Skeleton
  pub typed : TermSkeleton (skeletons_over constants Ψ) (local_skeletons D outer) N of_skeleton

-- under the lambdas of the skeleton, the variable is the argument at this place; places count from 0, the first argument first
abbrev pub IsVariableOfPlace : Skeleton → ℕ → ℕ → Type 0
IsVariableOfPlace t place variable = variable + place + 1 ≡ arity t
