-- A run of splits by unification over families without indices, as nat and exp: each case that comes by it is one of patterns. Nothing is asked of the
-- constants but that their families are such too.
use Rattle.std.specs.Prelude.{◌≡◌, ℕ, List, Bool, true, Some}
use Rattle.lf.specs.Subordination.{Block, AreTypedBlocks, IsBelowTest, SelfContained}
use Rattle.lf.specs.Syntax.{Kind, star}
use Rattle.lf.specs.Typing.{Signature, IsSignature}
use Rattle.lf.specs.Variables.{nothing}
use Rattle.lf_cases.specs.Candidates.{free_among}
use Rattle.lf_cases.specs.Case.{Case, input_goal, items_context}
use Rattle.lf_checks.specs.Marks.{MentionChosenOnly}
use Rattle.lf_cases.specs.Split.{HasNoBlockVariable}
use Rattle.lf_coverage.specs.FullMatching.{AllHavePatterns}
use Rattle.lf_coverage.specs.Heads.{IsTypedCase}
use Rattle.lf_coverage.specs.PatternCases.{IsPatternCase}
use Rattle.lf_coverage.specs.SplitStore.{AllFamiliesIn}
use Rattle.lf_coverage.specs.Subordinate.{AllQuantifiersAreBelow}
use Rattle.lf_coverage.specs.SubordinateRuns.{ComesBy}
use Rattle.lf_coverage.specs.UnifiedSplit.{AnswersEachHead}

-- the families of S take no arguments
abbrev pub HaveNoIndices : Signature → (ℕ → Bool) → Type 0
HaveNoIndices Σ S = (a : ℕ) → S a ≡ true → Σ.kinds a ≡ Some star

-- Each case that comes by such splits from a case of patterns is one, where the items' types are of families of a self-contained set without indices.
abbrev pub RunKeepsPatterns : Type 0
RunKeepsPatterns = (Σ : Signature) → IsSignature Σ → (W : List Block) → AreTypedBlocks Σ W → (below : ℕ → ℕ → Bool) → ((f : ℕ) → IsBelowTest Σ W (below f) f) → (S : ℕ → Bool) → SelfContained Σ W S → HaveNoIndices Σ S → (goal : Case) → IsTypedCase Σ W goal → AllQuantifiersAreBelow below (items_context goal.items) → AllFamiliesIn S (items_context goal.items) → HasNoBlockVariable goal.items → IsPatternCase Σ goal → (D : Case) → ComesBy (AnswersEachHead Σ W below) goal D → IsPatternCase Σ D

-- So each case from the goal of inputs stands on patterns as matching asks. This `InputRunIsNeverStuck` asks of a
-- case in the empty world.
abbrev pub InputRunHasPatterns : Type 0
InputRunHasPatterns = (Σ : Signature) → IsSignature Σ → (W : List Block) → AreTypedBlocks Σ W → (below : ℕ → ℕ → Bool) → ((f : ℕ) → IsBelowTest Σ W (below f) f) → (S : ℕ → Bool) → SelfContained Σ W S → HaveNoIndices Σ S → (a : ℕ) (m : List Bool) (K : Kind) → Σ.kinds a ≡ Some K → MentionChosenOnly nothing m K → AllFamiliesIn S (items_context (input_goal a m K).items) → (D : Case) → ComesBy (AnswersEachHead Σ W below) (input_goal a m K) D → AllHavePatterns nothing (free_among D.items) D.arguments
