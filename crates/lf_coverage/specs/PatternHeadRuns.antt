-- Runs at each split of which the heads have patterns, also over families with indices: each case that comes by them is one of patterns.
use Rattle.std.specs.Prelude.{◌≡◌, ℕ, List, Bool, [], Some}
use Rattle.lf.specs.Subordination.{Block, Member, AreTypedBlocks, IsBelowTest}
use Rattle.lf.specs.Syntax.{Kind}
use Rattle.lf.specs.Typing.{Signature, IsSignature}
use Rattle.lf.specs.Variables.{nothing}
use Rattle.lf_checks.specs.Marks.{Mark, MentionChosenOnly, input_places}
use Rattle.lf_cases.specs.Candidates.{free_among}
use Rattle.lf_cases.specs.Case.{Case, input_goal, items_context}
use Rattle.lf_cases.specs.Missing.{IsMissing}
use Rattle.lf_cases.specs.Pattern.{Pattern}
use Rattle.lf_cases.specs.Reached.{IsUnsplit}
use Rattle.lf_cases.specs.Split.{HasNoBlockVariable}
use Rattle.lf_coverage.specs.FullMatching.{AllHavePatterns}
use Rattle.lf_coverage.specs.HeadOrder.{Offer}
use Rattle.lf_coverage.specs.Heads.{IsTypedCase}
use Rattle.lf_coverage.specs.MeetStore.{IsOpen}
use Rattle.lf_coverage.specs.PatternCases.{IsPatternCase}
use Rattle.lf_coverage.specs.PatternSplits.{HeadHasPatterns}
use Rattle.lf_coverage.specs.PatternStores.{TypesArePatterns}
use Rattle.lf_coverage.specs.SplitStore.{context_metavariables}
use Rattle.lf_coverage.specs.Stuck.{IsStrategyHead}
use Rattle.lf_coverage.specs.Subordinate.{AllQuantifiersAreBelow}
use Rattle.lf_coverage.specs.SubordinateRuns.{ComesBy}
use Rattle.lf_coverage.specs.UnifiedSplit.{IsAnsweredSplit}

-- a case is split at one of its variables, unification answers at each head, and each head has patterns
abbrev pub SplitsByPatterns : Signature → List Block → (ℕ → ℕ → Bool) → Case → List Case → Type 0
SplitsByPatterns Σ W below C Cs = (x : ℕ) × (s : IsAnsweredSplit Σ W below C x Cs) × ((h : Offer) → Member h s.offers → HeadHasPatterns Σ below s.type h.items h.moved h.type)

-- Each case that comes by such splits from a case of patterns is one.
abbrev pub SplitsByPatternsKeepThem : Type 0
SplitsByPatternsKeepThem = (Σ : Signature) → IsSignature Σ → (W : List Block) → AreTypedBlocks Σ W → (below : ℕ → ℕ → Bool) → ((f : ℕ) → IsBelowTest Σ W (below f) f) → (goal : Case) → IsTypedCase Σ W goal → AllQuantifiersAreBelow below (items_context goal.items) → HasNoBlockVariable goal.items → IsPatternCase Σ goal → (D : Case) → ComesBy (SplitsByPatterns Σ W below) goal D → IsPatternCase Σ D

-- So each case from the goal of inputs stands on patterns as matching asks, where the types of the goal's items have patterns.
abbrev pub InputSplitsHavePatterns : Type 0
InputSplitsHavePatterns = (Σ : Signature) → IsSignature Σ → (W : List Block) → AreTypedBlocks Σ W → (below : ℕ → ℕ → Bool) → ((f : ℕ) → IsBelowTest Σ W (below f) f) → (a : ℕ) (m : List Bool) (K : Kind) → Σ.kinds a ≡ Some K → MentionChosenOnly nothing m K → TypesArePatterns Σ (context_metavariables (items_context (input_goal a m K).items)) → (D : Case) → ComesBy (SplitsByPatterns Σ W below) (input_goal a m K) D → AllHavePatterns nothing (free_among D.items) D.arguments

-- So in the empty world the run is stuck at none of them where nothing is open; with what unification leaves open, one at which it is stuck is a
-- missing case, and open with a pattern.
abbrev pub InputSplitsAreNeverStuck : Type 0
InputSplitsAreNeverStuck = (Σ : Signature) → IsSignature Σ → (below : ℕ → ℕ → Bool) → ((f : ℕ) → IsBelowTest Σ [] (below f) f) → (m : ℕ → List Mark) (a : ℕ) (K : Kind) → Σ.kinds a ≡ Some K → MentionChosenOnly nothing (input_places (m a)) K → (ps : List Pattern) → ((p : Pattern) → Member p ps → IsStrategyHead Σ below m a p) → TypesArePatterns Σ (context_metavariables (items_context (input_goal a (input_places (m a)) K).items)) → (D : Case) → ComesBy (SplitsByPatterns Σ [] below) (input_goal a (input_places (m a)) K) D → (IsUnsplit Σ [] (λ C p. ⊥) ps D → ⊥) × (IsUnsplit Σ [] (IsOpen Σ) ps D → IsMissing Σ [] ps (input_goal a (input_places (m a)) K) D × ((p : Pattern) × Member p ps × IsOpen Σ D p))
