-- A run of splits by unification over families with indices, where the types of their constants have patterns: each case that comes by it is one of
-- patterns, and it is never stuck. Nothing is asked of the splits. T holds the families in the types of the goal's items, and with each of its families
-- those in the types of its constants.
use Rattle.std.specs.Prelude.{◌≡◌, ℕ, List, Bool, true, [], ◌⊎◌, Some}
use Rattle.lf.specs.Subordination.{Block, Member, AreTypedBlocks, IsBelowTest, SelfContained}
use Rattle.lf.specs.Syntax.{Kind}
use Rattle.lf.specs.Typing.{Signature, IsSignature}
use Rattle.lf.specs.Variables.{nothing}
use Rattle.lf_checks.specs.Marks.{Mark, MentionChosenOnly, input_places}
use Rattle.lf_cases.specs.Candidates.{free_among}
use Rattle.lf_cases.specs.Case.{Case, input_goal, items_context}
use Rattle.lf_cases.specs.Missing.{IsMissing}
use Rattle.lf_cases.specs.Pattern.{Pattern}
use Rattle.lf_cases.specs.Reached.{FirstCandidate, IsInstanceOf, IsUnsplit}
use Rattle.lf_coverage.specs.FullMatching.{AllHavePatterns}
use Rattle.lf_coverage.specs.Indices.{ConstantsHavePatterns, kind_has_patterns}
use Rattle.lf_coverage.specs.MeetStore.{IsOpen}
use Rattle.lf_coverage.specs.PatternCases.{IsPatternCase}
use Rattle.lf_coverage.specs.PatternHeadRuns.{SplitsByPatterns}
use Rattle.lf_coverage.specs.SplitStore.{AllFamiliesIn}
use Rattle.lf_coverage.specs.Stuck.{IsAnswered, IsStrategyHead}
use Rattle.lf_coverage.specs.SubordinateRuns.{ComesBy}
use Rattle.lf_coverage.specs.UnifiedSplit.{AnswersEachHead}

-- Each head of a split of such a run has patterns, so that it is a run by splits that keep them.
abbrev pub IndexedRunSplitsByPatterns : Type 0
IndexedRunSplitsByPatterns = (Σ : Signature) → IsSignature Σ → (T : ℕ → Bool) → ConstantsHavePatterns Σ T → (W : List Block) → AreTypedBlocks Σ W → SelfContained Σ W T → (below : ℕ → ℕ → Bool) → ((f : ℕ) → IsBelowTest Σ W (below f) f) → (a : ℕ) (m : List Bool) (K : Kind) → Σ.kinds a ≡ Some K → MentionChosenOnly nothing m K → kind_has_patterns m K ≡ true → AllFamiliesIn T (items_context (input_goal a m K).items) → (D : Case) → ComesBy (AnswersEachHead Σ W below) (input_goal a m K) D → ComesBy (SplitsByPatterns Σ W below) (input_goal a m K) D

-- So each case that comes by it from the goal of inputs is one of patterns, and stands on them as matching asks.
abbrev pub IndexedRunHasPatterns : Type 0
IndexedRunHasPatterns = (Σ : Signature) → IsSignature Σ → (T : ℕ → Bool) → ConstantsHavePatterns Σ T → (W : List Block) → AreTypedBlocks Σ W → SelfContained Σ W T → (below : ℕ → ℕ → Bool) → ((f : ℕ) → IsBelowTest Σ W (below f) f) → (a : ℕ) (m : List Bool) (K : Kind) → Σ.kinds a ≡ Some K → MentionChosenOnly nothing m K → kind_has_patterns m K ≡ true → AllFamiliesIn T (items_context (input_goal a m K).items) → (D : Case) → ComesBy (AnswersEachHead Σ W below) (input_goal a m K) D → IsPatternCase Σ D × AllHavePatterns nothing (free_among D.items) D.arguments

-- So in the empty world it is stuck at none of them where nothing is open; with what unification leaves open, one at which it is stuck is a missing case,
-- and open with a pattern.
abbrev pub IndexedRunIsNeverStuck : Type 0
IndexedRunIsNeverStuck = (Σ : Signature) → IsSignature Σ → (T : ℕ → Bool) → ConstantsHavePatterns Σ T → SelfContained Σ [] T → (below : ℕ → ℕ → Bool) → ((f : ℕ) → IsBelowTest Σ [] (below f) f) → (m : ℕ → List Mark) (a : ℕ) (K : Kind) → Σ.kinds a ≡ Some K → MentionChosenOnly nothing (input_places (m a)) K → kind_has_patterns (input_places (m a)) K ≡ true → AllFamiliesIn T (items_context (input_goal a (input_places (m a)) K).items) → (ps : List Pattern) → ((p : Pattern) → Member p ps → IsStrategyHead Σ below m a p) → (D : Case) → ComesBy (AnswersEachHead Σ [] below) (input_goal a (input_places (m a)) K) D → (IsUnsplit Σ [] (λ C p. ⊥) ps D → ⊥) × (IsUnsplit Σ [] (IsOpen Σ) ps D → IsMissing Σ [] ps (input_goal a (input_places (m a)) K) D × ((p : Pattern) × Member p ps × IsOpen Σ D p))

-- And where unification with each head comes to an end, they go on: each is an instance of a head, is split, or is missing.
abbrev pub IndexedRunProceeds : Type 0
IndexedRunProceeds = (Σ : Signature) → IsSignature Σ → (T : ℕ → Bool) → ConstantsHavePatterns Σ T → SelfContained Σ [] T → (below : ℕ → ℕ → Bool) → ((f : ℕ) → IsBelowTest Σ [] (below f) f) → (m : ℕ → List Mark) (a : ℕ) (K : Kind) → Σ.kinds a ≡ Some K → MentionChosenOnly nothing (input_places (m a)) K → kind_has_patterns (input_places (m a)) K ≡ true → AllFamiliesIn T (items_context (input_goal a (input_places (m a)) K).items) → (ps : List Pattern) → ((p : Pattern) → Member p ps → IsStrategyHead Σ below m a p) → (D : Case) → ComesBy (AnswersEachHead Σ [] below) (input_goal a (input_places (m a)) K) D → ((p : Pattern) → Member p ps → IsAnswered Σ K D p) → ((p : Pattern) × Member p ps × IsInstanceOf Σ [] D p) ⊎ ((x : ℕ) × FirstCandidate Σ [] (IsOpen Σ) D x ps) ⊎ IsMissing Σ [] ps (input_goal a (input_places (m a)) K) D
