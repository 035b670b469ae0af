-- Environments whose closures have their skeletons.
use Rattle.std.specs.Prelude.{◌≡◌, ℕ, ◌<◌, List, [], ◌∷◌, drop, Option}
use Rattle.lf.specs.Syntax.{Term, Spine, lambda, root, nil, app, LfType, Skeleton, base, arrow}
use Rattle.lf.specs.AtOnce.{shift_by}
use Rattle.lf.specs.SkeletonTyping.{HeadSkeletons, SkeletonAt, TermSkeleton, SpineSkeleton, TypeBySkeletons, RenamingBySkeletons}
use Rattle.lf_closures.specs.Environments.{Environment, outside, under, moved, extended, Found, stays, closure}

-- the n newest variables are the same in both contexts
abbrev pub SameNewest : ℕ → List Skeleton → List Skeleton → Type 0
SameNewest n Γ Δ = (i : ℕ) (t : Skeleton) → i < n → SkeletonAt Γ i t → SkeletonAt Δ i t

-- the environment takes Γ to Δ
abbrev pub EnvironmentFits : HeadSkeletons → Environment → List Skeleton → List Skeleton → Type 0
EnvironmentFits κ outside Γ Δ = RenamingBySkeletons Γ Δ (λ i. i)
EnvironmentFits κ (under n e) Γ Δ = SameNewest n Γ Δ × EnvironmentFits κ e (drop n Γ) (drop n Δ)
EnvironmentFits κ (moved n e) Γ Δ = (Ξ : List Skeleton) × RenamingBySkeletons Ξ Δ (shift_by n) × EnvironmentFits κ e Γ Ξ
EnvironmentFits κ (extended a N c e) [] Δ = Unit {0}
EnvironmentFits κ (extended a N c e) (b ∷ Γ) Δ = (a ≡ b) × ((Ξ : List Skeleton) × EnvironmentFits κ c Ξ Δ × TermSkeleton κ Ξ N a) × EnvironmentFits κ e Γ Δ

-- what is found for a variable of this skeleton fits
abbrev pub FoundFits : HeadSkeletons → Found → List Skeleton → Skeleton → Type 0
FoundFits κ (stays i) Δ t = SkeletonAt Δ i t
FoundFits κ (closure a N c n) Δ t = (a ≡ t) × ((Ξ : List Skeleton) × RenamingBySkeletons Ξ Δ (shift_by n) × ((Γ : List Skeleton) × EnvironmentFits κ c Γ Ξ × TermSkeleton κ Γ N a))

-- the term has a skeleton in a context that the environment takes to another
pub record ClosureFits (e : Environment) (M : Term) : Type 0 where
  pub heads : HeadSkeletons
  pub context : List Skeleton
  pub target : List Skeleton
  pub term_skeleton : Skeleton
  pub environment_fits : EnvironmentFits heads e context target
  pub term_typed : TermSkeleton heads context M term_skeleton

-- the same of a spine
pub record SpineClosureFits (e : Environment) (S : Spine) : Type 0 where
  pub heads : HeadSkeletons
  pub context : List Skeleton
  pub target : List Skeleton
  pub head_skeleton : Skeleton
  pub result_skeleton : Skeleton
  pub environment_fits : EnvironmentFits heads e context target
  pub spine_typed : SpineSkeleton heads context S head_skeleton result_skeleton

-- the term N in e has the skeleton a, and the spine S in c gives it all its arguments
pub record ClosureApplies (a : Skeleton) (N : Term) (e : Environment) (S : Spine) (c : Environment) : Type 0 where
  pub heads : HeadSkeletons
  pub context : List Skeleton
  pub arguments_context : List Skeleton
  pub target : List Skeleton
  pub family : ℕ
  pub environment_fits : EnvironmentFits heads e context target
  pub term_typed : TermSkeleton heads context N a
  pub arguments_fit : EnvironmentFits heads c arguments_context target
  pub spine_typed : SpineSkeleton heads arguments_context S a (base family)

-- the same of a type
pub record TypeClosureFits (e : Environment) (A : LfType) : Type 0 where
  pub families : ℕ → Option Skeleton
  pub heads : HeadSkeletons
  pub context : List Skeleton
  pub target : List Skeleton
  pub environment_fits : EnvironmentFits heads e context target
  pub type_typed : TypeBySkeletons families heads context A

-- the skeleton has an arrow, and the term a lambda, for each argument
abbrev pub TakesAll : Skeleton → Term → Spine → Type 0
TakesAll a N nil = Unit {0}
TakesAll (arrow a b) (lambda N) (app M S) = TakesAll b N S
TakesAll (arrow a b) (root h T) (app M S) = ⊥
TakesAll (base c) N (app M S) = ⊥
