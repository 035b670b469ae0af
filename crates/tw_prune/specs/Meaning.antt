-- What the answers of inversion mean, for every declaration of metavariables Ψ, local context D and skeleton t at which xs is a pattern there.
use Rattle.std.specs.Prelude.{◌≡◌, ℕ, List, Option}
use Rattle.lf.specs.Subordination.{Member}
use Rattle.lf.specs.Syntax.{LfType, Skeleton, Spine, Term, metavariable, rename, root}
use Rattle.lf_unification.specs.Inversion.{Allowed, Inverted as HasInversion, IsPattern, IsUnderBinders, MustDrop, NeverInverted}
use Rattle.lf_unification.specs.OpenTyping.{skeletons_of}
use Rattle.lf_unification.specs.Patterns.{FreeVariablesInSpine, beyond, pattern, pattern_renaming}
use Rattle.lf_unification.specs.Rigid.{Rigid}
use Rattle.tw_terms.specs.OpenView.{open_term_of}
use Rattle.tw_prune.specs.Standing.{HasSkeleton, StandsIn}
use Rattle.tw_prune.specs.declared.inversion.Inverted.{Inverted as Answer}
use Rattle.tw_prune.specs.declared.inversion.Inverted.TheVariants.{Inverted, Drop, Never, Outside}

-- B is the inversion of N: applied to the pattern it is N, and no other term is
pub record IsInversion (inner : ℕ) (xs : List ℕ) (N B : Term) : Type 0 where
  pub is : (D : List LfType) (t : Skeleton) → StandsIn inner D t xs → rename (pattern_renaming t xs (beyond D)) B ≡ N
  pub only : (D : List LfType) (t : Skeleton) → StandsIn inner D t xs → (C : Term) → rename (pattern_renaming t xs (beyond D)) C ≡ N → C ≡ B

-- N has no inversion, and no variable in it shows that no instance has one
pub record IsHindered (inner : ℕ) (xs : List ℕ) (N : Term) : Type 0 where
  pub not_inverted : (Ψ : ℕ → Option LfType) (D : List LfType) (t : Skeleton) → StandsIn inner D t xs → HasInversion Ψ D t xs N → ⊥
  pub not_never : (Ψ : ℕ → Option LfType) (D : List LfType) (t : Skeleton) → StandsIn inner D t xs → NeverInverted Ψ D t xs N → ⊥

-- metavariable m must lose its argument at the place
pub record MustLose (Ψ : ℕ → Option LfType) (D : List LfType) (t : Skeleton) (xs : List ℕ) (N : Term) (m place : ℕ) : Type 0 where
  pub drop : MustDrop Ψ D t xs N
  pub of : drop.m ≡ m
  pub at : drop.place ≡ place

-- A metavariable stands in no argument of another, on arguments that are no pattern and hold a variable that is not allowed.
pub record HoldsBad (Ψ : ℕ → Option LfType) (D : List LfType) (t : Skeleton) (xs : List ℕ) (N : Term) : Type 0 where
  pub m : ℕ
  pub depth : ℕ
  pub arguments : Spine
  pub at : Rigid (root (metavariable m) arguments) depth N
  pub holds : FreeVariablesInSpine (Allowed D t xs depth) arguments → ⊥
  pub no_pattern : (E : List LfType) (ys : List ℕ) → IsUnderBinders D depth E → IsPattern E (skeletons_of Ψ m) ys → arguments ≡ pattern (skeletons_of Ψ m) ys → ⊥

-- what each answer says of N; the order of the last three is in that each says that those before it don't hold
abbrev pub AnswerMeans : ℕ → List ℕ → Term → Answer → Type 0
AnswerMeans inner xs N (Inverted t) = IsInversion inner xs N (open_term_of t)
AnswerMeans inner xs N Never = (Ψ : ℕ → Option LfType) (D : List LfType) (t : Skeleton) → StandsIn inner D t xs → NeverInverted Ψ D t xs N
AnswerMeans inner xs N (Drop m place) = IsHindered inner xs N × ((Ψ : ℕ → Option LfType) (D : List LfType) (t : Skeleton) → StandsIn inner D t xs → HasSkeleton Ψ D N → MustLose Ψ D t xs N m.0 place)
AnswerMeans inner xs N Outside = IsHindered inner xs N × ((Ψ : ℕ → Option LfType) (D : List LfType) (t : Skeleton) → StandsIn inner D t xs → (MustDrop Ψ D t xs N → ⊥) × HoldsBad Ψ D t xs N)

-- each of the pairs is a metavariable that must lose its argument at the place
abbrev pub AreLosses : ℕ → List ℕ → Term → List (ℕ × ℕ) → Type 0
AreLosses inner xs N losses = (Ψ : ℕ → Option LfType) (D : List LfType) (t : Skeleton) → StandsIn inner D t xs → HasSkeleton Ψ D N → (m place : ℕ) → Member (m, place) losses → MustLose Ψ D t xs N m place

-- the pairs are all
abbrev pub HasEachLoss : ℕ → List ℕ → Term → List (ℕ × ℕ) → Type 0
HasEachLoss inner xs N losses = (Ψ : ℕ → Option LfType) (D : List LfType) (t : Skeleton) → StandsIn inner D t xs → (drop : MustDrop Ψ D t xs N) → Member (drop.m, drop.place) losses
