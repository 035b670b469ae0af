-- Patterns: spines of distinct variables, up to eta.
use Rattle.std.specs.Prelude.{◌≡◌, ℕ, zero, suc, List, [], ◌∷◌}
use Rattle.lf.specs.Eta.{eta_expand}
use Rattle.lf.specs.SkeletonTyping.{SkeletonAt}
use Rattle.lf.specs.Syntax.{LfType, Skeleton, Spine, Term, app, arrow, base, constant, lambda, metavariable, nil, root, skeleton, variable}

-- the eta-long variable
abbrev pub eta_variable : Skeleton → ℕ → Term
eta_variable a x = eta_expand a (variable x) nil

-- the arguments of a pattern: variables, at a skeleton
abbrev pub pattern : Skeleton → List ℕ → Spine
pattern (base c) xs = nil
pattern (arrow a b) [] = nil
pattern (arrow a b) (x ∷ xs) = app (eta_variable a x) (pattern b xs)

-- a body under the lambdas of a skeleton
abbrev pub lambdas_of : Skeleton → Term → Term
lambdas_of (base c) M = M
lambdas_of (arrow a b) M = lambda (lambdas_of b M)

-- variable x for the newest variable
abbrev pub extend_renaming : ℕ → (ℕ → ℕ) → ℕ → ℕ
extend_renaming x τ zero = x
extend_renaming x τ (suc i) = τ i

-- what the variables of such a body become: the variables of the pattern, and outside the lambdas what τ gives
abbrev pub pattern_renaming : Skeleton → List ℕ → (ℕ → ℕ) → ℕ → ℕ
pattern_renaming (base c) xs τ = τ
pattern_renaming (arrow a b) [] τ = τ
pattern_renaming (arrow a b) (x ∷ xs) τ = pattern_renaming b xs (extend_renaming x τ)

-- the variables outside the lambdas of a skeleton, seen from inside them
abbrev pub past : Skeleton → ℕ → ℕ
past (base c) i = i
past (arrow a b) i = past b (suc i)

-- each variable of the pattern has the skeleton of its place
abbrev pub PatternFits : List Skeleton → Skeleton → List ℕ → Type 0
PatternFits Δ (base c) [] = Unit {0}
PatternFits Δ (base c) (x ∷ xs) = ⊥
PatternFits Δ (arrow a b) [] = ⊥
PatternFits Δ (arrow a b) (x ∷ xs) = SkeletonAt Δ x a × PatternFits Δ b xs

-- different variables stay different
abbrev pub Injective : (ℕ → ℕ) → Type 0
Injective ρ = (i j : ℕ) → ρ i ≡ ρ j → i ≡ j

-- a set of variables under one more binder: the bound variable is in it
abbrev pub LiftedSet : (ℕ → Type 0) → ℕ → Type 0
LiftedSet P zero = Unit {0}
LiftedSet P (suc i) = P i

-- each free variable of the term is in P
abbrev mutual
  pub FreeVariablesIn : (ℕ → Type 0) → Term → Type 0
  FreeVariablesIn P (lambda M) = FreeVariablesIn (LiftedSet P) M
  FreeVariablesIn P (root (constant c) S) = FreeVariablesInSpine P S
  FreeVariablesIn P (root (metavariable m) S) = FreeVariablesInSpine P S
  FreeVariablesIn P (root (variable i) S) = P i × FreeVariablesInSpine P S

  pub FreeVariablesInSpine : (ℕ → Type 0) → Spine → Type 0
  FreeVariablesInSpine P nil = Unit {0}
  FreeVariablesInSpine P (app M S) = FreeVariablesIn P M × FreeVariablesInSpine P S

-- some variable is renamed to i
abbrev pub InImage : (ℕ → ℕ) → ℕ → Type 0
InImage ρ i = (j : ℕ) × (ρ j ≡ i)

-- the context under the lambdas of a skeleton
abbrev pub context_under : Skeleton → List Skeleton → List Skeleton
context_under (base c) Γ = Γ
context_under (arrow a b) Γ = context_under b (a ∷ Γ)

-- the family of its target
abbrev pub skeleton_target : Skeleton → ℕ
skeleton_target (base c) = c
skeleton_target (arrow a b) = skeleton_target b

-- a variable of the outer context, seen from inside the local one
abbrev pub beyond : List LfType → ℕ → ℕ
beyond [] i = i
beyond (A ∷ D) i = suc (beyond D i)

-- the skeletons of the local context, before those of the outer one
abbrev pub local_skeletons : List LfType → List Skeleton → List Skeleton
local_skeletons [] Γ = Γ
local_skeletons (A ∷ D) Γ = skeleton A ∷ local_skeletons D Γ
