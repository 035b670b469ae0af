-- Families whose indices are of families without indices, as of : exp -> tp -> type: a run over them stops at no equation.
use Rattle.std.specs.Prelude.{◌≡◌, ℕ, List, Bool, true, Some}
use Rattle.lf.specs.Subordination.{Block, AreTypedBlocks, IsBelowTest, SelfContained}
use Rattle.lf.specs.Syntax.{Kind}
use Rattle.lf.specs.Typing.{Signature, IsSignature}
use Rattle.lf.specs.Variables.{KindFamiliesIn, nothing}
use Rattle.lf_checks.specs.Marks.{MentionChosenOnly}
use Rattle.lf_cases.specs.Case.{Case, input_goal, items_context}
use Rattle.lf_unification.specs.Unifiers.{Equation}
use Rattle.lf_coverage.specs.Indices.{ConstantsHavePatterns, kind_has_patterns}
use Rattle.lf_coverage.specs.Outside.{SplitLeaves}
use Rattle.lf_coverage.specs.PatternRuns.{HaveNoIndices}
use Rattle.lf_coverage.specs.SplitStore.{AllFamiliesIn}
use Rattle.lf_coverage.specs.SubordinateRuns.{ComesBy}
use Rattle.lf_coverage.specs.UnifiedSplit.{AnswersEachHead}

-- S has families without indices, and with each those that are below it; what the families of T are indexed by is of families of S. With exp and tp in S,
-- of is in T; not a family that is indexed by derivations.
pub record AreLayers (Σ : Signature) (below : ℕ → ℕ → Bool) (S T : ℕ → Bool) : Type 0 where
  pub no_indices : HaveNoIndices Σ S
  pub downward : (f b : ℕ) → S f ≡ true → below f b ≡ true → S b ≡ true
  pub indices : (a : ℕ) (K : Kind) → T a ≡ true → Σ.kinds a ≡ Some K → KindFamiliesIn S K

-- Where the types of the constants of families of T have patterns no split of a case over families of T that comes from the goal of inputs leaves an
-- equation outside the pattern fragment.
abbrev pub LayeredRunNeverLeaves : Type 0
LayeredRunNeverLeaves = (Σ : Signature) → IsSignature Σ → (S T : ℕ → Bool) → ConstantsHavePatterns Σ T → (W : List Block) → AreTypedBlocks Σ W → SelfContained Σ W T → (below : ℕ → ℕ → Bool) → ((f : ℕ) → IsBelowTest Σ W (below f) f) → AreLayers Σ below S T → (a : ℕ) (m : List Bool) (K : Kind) → Σ.kinds a ≡ Some K → MentionChosenOnly nothing m K → kind_has_patterns m K ≡ true → AllFamiliesIn T (items_context (input_goal a m K).items) → (D : Case) → ComesBy (AnswersEachHead Σ W below) (input_goal a m K) D → (x : ℕ) (shown : Equation) → SplitLeaves Σ W below D x shown → ⊥
