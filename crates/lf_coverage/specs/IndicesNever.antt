-- A run over families without indices, as nat and exp, stops at no equation.
use Rattle.std.specs.Prelude.{◌≡◌, ℕ, List, Bool, Some}
use Rattle.lf.specs.Subordination.{Block, AreTypedBlocks, IsBelowTest, SelfContained}
use Rattle.lf.specs.Syntax.{Kind}
use Rattle.lf.specs.Typing.{Signature, IsSignature}
use Rattle.lf.specs.Variables.{nothing}
use Rattle.lf_checks.specs.Marks.{MentionChosenOnly}
use Rattle.lf_cases.specs.Case.{Case, input_goal, items_context}
use Rattle.lf_unification.specs.Unifiers.{Equation}
use Rattle.lf_coverage.specs.Outside.{SplitLeaves}
use Rattle.lf_coverage.specs.PatternRuns.{HaveNoIndices}
use Rattle.lf_coverage.specs.SplitStore.{AllFamiliesIn}
use Rattle.lf_coverage.specs.SubordinateRuns.{ComesBy}
use Rattle.lf_coverage.specs.UnifiedSplit.{AnswersEachHead}

-- No split of a case that comes from the goal of inputs leaves an equation outside the pattern fragment.
abbrev pub RunNeverLeaves : Type 0
RunNeverLeaves = (Σ : Signature) → IsSignature Σ → (W : List Block) → AreTypedBlocks Σ W → (below : ℕ → ℕ → Bool) → ((f : ℕ) → IsBelowTest Σ W (below f) f) → (S : ℕ → Bool) → SelfContained Σ W S → HaveNoIndices Σ S → (a : ℕ) (m : List Bool) (K : Kind) → Σ.kinds a ≡ Some K → MentionChosenOnly nothing m K → AllFamiliesIn S (items_context (input_goal a m K).items) → (D : Case) → ComesBy (AnswersEachHead Σ W below) (input_goal a m K) D → (x : ℕ) (shown : Equation) → SplitLeaves Σ W below D x shown → ⊥
