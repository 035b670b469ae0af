-- Matching a term of a clause with a term of a case: where both share an instance, values make the one the other, or a variable of the
-- case is a candidate.
use Rattle.std.specs.Prelude.{◌≡◌, ℕ, zero, suc, ◌≤◌, List, [], ◌++◌, length, Bool, true, false, not, Option, Some, None}
use Rattle.lf.specs.Syntax.{constant, variable, metavariable, Term, Spine, lambda, root, nil, app, Skeleton}
use Rattle.lf.specs.Substitution.{Image, keep, substitute, substitute_spine, reduce}
use Rattle.lf.specs.AtOnce.{lift_by}
use Rattle.lf.specs.SkeletonTyping.{SkeletonAt, ImageSkeleton, TermSkeleton, SpineSkeleton, SubstitutionBySkeletons}
use Rattle.lf.specs.Skeletons.{constant_skeletons}
use Rattle.lf.specs.Typing.{Signature}
use Rattle.lf.specs.Variables.{under, hide, nothing, Uses, same_number}
use Rattle.lf_checks.specs.Tests.{choose, either}
use Rattle.lf_checks.specs.Strict.{head_variable, pattern_arguments}
use Rattle.lf_cases.specs.Full.{occurrences, occurrences_spine}
use Rattle.lf_cases.specs.Candidates.{candidates, candidates_spine}

-- Each variable of P in the term is applied to distinct bound variables. B has the bound variables.
abbrev mutual
  pub HasPatterns : (ℕ → Bool) → (ℕ → Bool) → Term → Type 0
  HasPatterns B P (lambda M) = HasPatterns (under B) (hide P) M
  HasPatterns B P (root (constant c) S) = HavePatterns B P S
  HasPatterns B P (root (metavariable m) S) = HavePatterns B P S
  HasPatterns B P (root (variable i) S) = choose (P i) (pattern_arguments B [] S ≡ true) (HavePatterns B P S)

  -- in the arguments
  pub HavePatterns : (ℕ → Bool) → (ℕ → Bool) → Spine → Type 0
  HavePatterns B P nil = Unit {0}
  HavePatterns B P (app M S) = HasPatterns B P M × HavePatterns B P S

-- the variable is this one
abbrev pub is_this_variable : ℕ → Option ℕ → Bool
is_this_variable x None = false
is_this_variable x (Some y) = same_number x y

-- the variable heads one of the arguments
abbrev pub heads_argument : ℕ → Spine → Bool
heads_argument x nil = false
heads_argument x (app M S) = either (is_this_variable x (head_variable zero M)) (heads_argument x S)

-- Where N has a variable of P, this is applied to each bound variable that M has there.
abbrev mutual
  pub TakesBound : (ℕ → Bool) → (ℕ → Bool) → Term → Term → Type 0
  TakesBound B P (lambda M) (lambda N) = TakesBound (under B) (hide P) M N
  TakesBound B P (lambda M) (root k T) = Unit {0}
  TakesBound B P (root h S) (lambda N) = Unit {0}
  TakesBound B P (root h S) (root (constant c) T) = TakeBound B P S T
  TakesBound B P (root h S) (root (metavariable m) T) = TakeBound B P S T
  TakesBound B P (root h S) (root (variable j) T) = choose (P j) (Uses (λ i. either (not (B i)) (heads_argument i T)) (root h S)) (TakeBound B P S T)

  -- in the arguments
  pub TakeBound : (ℕ → Bool) → (ℕ → Bool) → Spine → Spine → Type 0
  TakeBound B P nil T = Unit {0}
  TakeBound B P (app M S) nil = Unit {0}
  TakeBound B P (app M S) (app N T) = TakesBound B P M N × TakeBound B P S T

-- the n newest variables
abbrev pub bound : ℕ → ℕ → Bool
bound zero = nothing
bound (suc n) = under (bound n)

-- a set of variables under these, none of which is in it
abbrev pub hidden : ℕ → (ℕ → Bool) → ℕ → Bool
hidden zero P = P
hidden (suc n) P = hide (hidden n P)

-- a variable under these
abbrev pub over : ℕ → ℕ → ℕ
over zero i = i
over (suc n) i = suc (over n i)

-- each variable of the context that isn't in F stays a variable
abbrev pub Stay : List Skeleton → (ℕ → Bool) → (ℕ → Image) → Type 0
Stay Γ F σ = (i : ℕ) (t : Skeleton) → SkeletonAt Γ i t → F i ≡ false → (j : ℕ) × (σ i ≡ keep j)

-- Where σ and τ make a variable outside F and one outside P the same, θ makes the second the first.
abbrev pub TakesBack : (ℕ → Bool) → (ℕ → Bool) → (ℕ → Image) → (ℕ → Image) → (ℕ → Image) → Type 0
TakesBack F P σ τ θ = (i j k : ℕ) → F i ≡ false → P j ≡ false → σ i ≡ keep k → τ j ≡ keep k → θ j ≡ keep i

-- Where a variable of the clause isn't in P, θ gives it something of its skeleton.
abbrev pub GivesSkeletons : Signature → List Skeleton → List Skeleton → (ℕ → Bool) → (ℕ → Image) → Type 0
GivesSkeletons Σ Δ Φ P θ = (x : ℕ) (t : Skeleton) → SkeletonAt Φ x t → P x ≡ false → ImageSkeleton (constant_skeletons Σ) Δ (θ x) t

-- Values that are those of θ but for the variables of P that occur in N; they have their skeletons, where those of θ have, and make N the term M, under n
-- bound variables.
pub record HasMatch (Σ : Signature) (Δ Φ : List Skeleton) (P : ℕ → Bool) (n : ℕ) (θ : ℕ → Image) (M N : Term) : Type 0 where
  pub values : ℕ → Image
  pub skeletons : SubstitutionBySkeletons (constant_skeletons Σ) Φ Δ θ → SubstitutionBySkeletons (constant_skeletons Σ) Φ Δ values
  pub others : (x : ℕ) → (P x ≡ true → occurrences (over n x) N ≡ 0) → values x ≡ θ x
  pub same : substitute reduce (lift_by n values) N ≡ M

-- of the arguments
pub record HaveMatch (Σ : Signature) (Δ Φ : List Skeleton) (P : ℕ → Bool) (n : ℕ) (θ : ℕ → Image) (S T : Spine) : Type 0 where
  pub values : ℕ → Image
  pub skeletons : SubstitutionBySkeletons (constant_skeletons Σ) Φ Δ θ → SubstitutionBySkeletons (constant_skeletons Σ) Φ Δ values
  pub others : (x : ℕ) → (P x ≡ true → occurrences_spine (over n x) T ≡ 0) → values x ≡ θ x
  pub same : substitute_spine reduce (lift_by n values) T ≡ S

-- A term M of a case, whose variables are those of F, and one N of a clause, whose variables are those of P, share an instance, by values σ
-- and τ. Both have patterns, N has each of its variables once, and applied to each bound variable that M has there. If no variable of the
-- case is a candidate, N is made M. The bound variables have the skeletons D, the others Δ in M and Φ in N.
abbrev pub TermsMatch : Type 0
TermsMatch = (Σ : Signature) (D Δ Φ : List Skeleton) (F P : ℕ → Bool) (σ τ θ : ℕ → Image) (M N : Term) (t : Skeleton) → Stay Δ F σ → Stay Φ P τ → TakesBack F P σ τ θ → GivesSkeletons Σ Δ Φ P θ → TermSkeleton (constant_skeletons Σ) (D ++ Δ) M t → TermSkeleton (constant_skeletons Σ) (D ++ Φ) N t → HasPatterns (bound (length D)) (hidden (length D) F) M → HasPatterns (bound (length D)) (hidden (length D) P) N → ((x : ℕ) → P x ≡ true → occurrences (over (length D) x) N ≤ 1) → TakesBound (bound (length D)) (hidden (length D) P) M N → substitute reduce (lift_by (length D) σ) M ≡ substitute reduce (lift_by (length D) τ) N → candidates (bound (length D)) (hidden (length D) F) (hidden (length D) P) (length D) M N ≡ [] → HasMatch Σ Δ Φ P (length D) θ M N

-- so do arguments
abbrev pub ArgumentsMatch : Type 0
ArgumentsMatch = (Σ : Signature) (D Δ Φ : List Skeleton) (F P : ℕ → Bool) (σ τ θ : ℕ → Image) (S T : Spine) (t u : Skeleton) → Stay Δ F σ → Stay Φ P τ → TakesBack F P σ τ θ → GivesSkeletons Σ Δ Φ P θ → SpineSkeleton (constant_skeletons Σ) (D ++ Δ) S t u → SpineSkeleton (constant_skeletons Σ) (D ++ Φ) T t u → HavePatterns (bound (length D)) (hidden (length D) F) S → HavePatterns (bound (length D)) (hidden (length D) P) T → ((x : ℕ) → P x ≡ true → occurrences_spine (over (length D) x) T ≤ 1) → TakeBound (bound (length D)) (hidden (length D) P) S T → substitute_spine reduce (lift_by (length D) σ) S ≡ substitute_spine reduce (lift_by (length D) τ) T → candidates_spine (bound (length D)) (hidden (length D) F) (hidden (length D) P) (length D) S T ≡ [] → HaveMatch Σ Δ Φ P (length D) θ S T
