-- Stores of patterns: each metavariable stands on distinct bound variables.
use Rattle.std.specs.Prelude.{◌≡◌, ℕ, List, [], ◌∷◌, length, Option, Some}
use Rattle.lf.specs.Syntax.{constant, variable, metavariable, Term, Spine, lambda, root, nil, app, LfType, pi, atom, Skeleton, base, arrow, skeleton}
use Rattle.lf.specs.SkeletonTyping.{SkeletonAt}
use Rattle.lf.specs.Skeletons.{family_skeletons, type_skeleton}
use Rattle.lf.specs.Typing.{Signature}
use Rattle.lf_unification.specs.Patterns.{Injective, PatternFits, local_skeletons, pattern, pattern_renaming, skeleton_target}
use Rattle.lf_unification.specs.Solving.{Solved}
use Rattle.lf_unification.specs.Steps.{Step}
use Rattle.lf_unification.specs.Unifiers.{Binding, Equation, Store}
use Rattle.lf_coverage.specs.TermMatching.{over}

-- The arguments are distinct bound variables, up to eta, one for each that the skeleton asks. The bound variables have the skeletons Γ, and
-- nothing stands outside them.
pub record AreDistinct (Γ : List Skeleton) (t : Skeleton) (S : Spine) : Type 0 where
  pub variables : List ℕ
  pub same : S ≡ pattern t variables
  pub places : PatternFits Γ t variables
  pub distinct : Injective (pattern_renaming t variables (over (length Γ)))

module _ (Σ : Signature) (Ψ : ℕ → Option LfType) where
  -- a term of a skeleton, each metavariable of which is declared and stands on distinct bound variables
  abbrev mutual
    pub IsPatternTerm : List Skeleton → Term → Skeleton → Type 0
    IsPatternTerm Γ (lambda M) (arrow a b) = IsPatternTerm (a ∷ Γ) M b
    IsPatternTerm Γ (lambda M) (base c) = ⊥
    IsPatternTerm Γ (root h S) (arrow a b) = ⊥
    IsPatternTerm Γ (root (constant k) S) (base c) = (t : Skeleton) × (type_skeleton (Σ.types k) ≡ Some t) × ArePatternArguments Γ S t (base c)
    IsPatternTerm Γ (root (variable i) S) (base c) = (t : Skeleton) × SkeletonAt Γ i t × ArePatternArguments Γ S t (base c)
    IsPatternTerm Γ (root (metavariable m) S) (base c) = (A : LfType) × (Ψ m ≡ Some A) × (skeleton_target (skeleton A) ≡ c) × AreDistinct Γ (skeleton A) S

    -- such arguments take the first skeleton to the second
    pub ArePatternArguments : List Skeleton → Spine → Skeleton → Skeleton → Type 0
    ArePatternArguments Γ nil t u = t ≡ u
    ArePatternArguments Γ (app M S) (arrow a b) u = IsPatternTerm Γ M a × ArePatternArguments Γ S b u
    ArePatternArguments Γ (app M S) (base c) u = ⊥

  -- the same in a type
  abbrev pub IsPatternType : List Skeleton → LfType → Type 0
  IsPatternType Γ (pi A B) = IsPatternType Γ A × IsPatternType (skeleton A ∷ Γ) B
  IsPatternType Γ (atom a S) = (t : Skeleton) × (family_skeletons Σ a ≡ Some t) × ArePatternArguments Γ S t (base a)

  -- values
  abbrev pub BindingsArePatterns : List Binding → Type 0
  BindingsArePatterns [] = Unit {0}
  BindingsArePatterns (b ∷ bs) = ((A : LfType) × (Ψ b.of ≡ Some A) × IsPatternTerm [] b.value (skeleton A)) × BindingsArePatterns bs

  -- the sides of equations; nothing is asked of their types and of what is local
  abbrev pub SidesArePatterns : List Equation → Type 0
  SidesArePatterns [] = Unit {0}
  SidesArePatterns (e ∷ es) = (IsPatternTerm (local_skeletons e.local []) e.left (skeleton e.of_type) × IsPatternTerm (local_skeletons e.local []) e.right (skeleton e.of_type)) × SidesArePatterns es

-- the types that are declared
abbrev pub TypesArePatterns : Signature → (ℕ → Option LfType) → Type 0
TypesArePatterns Σ Ψ = (m : ℕ) (A : LfType) → Ψ m ≡ Some A → IsPatternType Σ Ψ [] A

-- A store of patterns.
pub record IsPatternStore (Σ : Signature) (s : Store) : Type 0 where
  pub bindings : BindingsArePatterns Σ s.metavariables s.bindings
  pub sides : SidesArePatterns Σ s.metavariables s.equations

-- A step takes a store of patterns to one.
abbrev pub StepKeepsPatterns : Type 0
StepKeepsPatterns = (Σ : Signature) (before after : Store) → Step Σ before after → IsPatternStore Σ before → IsPatternStore Σ after

-- And where the declared types have patterns, so do those after it.
abbrev pub StepKeepsTypePatterns : Type 0
StepKeepsTypePatterns = (Σ : Signature) (before after : Store) → Step Σ before after → IsPatternStore Σ before → TypesArePatterns Σ before.metavariables → TypesArePatterns Σ after.metavariables

-- So does solving.
abbrev pub SolvedKeepsPatterns : Type 0
SolvedKeepsPatterns = (Σ : Signature) (before after : Store) → Solved Σ before after → IsPatternStore Σ before → TypesArePatterns Σ before.metavariables → IsPatternStore Σ after × TypesArePatterns Σ after.metavariables
