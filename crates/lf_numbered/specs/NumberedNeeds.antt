-- What the calls by number need: the goals that are made have it, splits keep it, and where it holds matching by terms decides what is an instance.
use Rattle.std.specs.Prelude.{◌≡◌, ℕ, List, [], ◌∷◌, Bool, ◌↔◌}
use Rattle.lf.specs.Syntax.{LfType, Kind}
use Rattle.lf.specs.Substitution.{Image}
use Rattle.lf.specs.Typing.{Signature, IsSignature}
use Rattle.lf.specs.Variables.{target}
use Rattle.lf.specs.Subordination.{Block, AreTypedBlocks, IsBelowTest, Member}
use Rattle.lf_checks.specs.Clause.{Clause}
use Rattle.lf_checks.specs.Marks.{Mark}
use Rattle.lf_cases.specs.Pattern.{AreHeadsOf, Origin, Pattern, head_pattern}
use Rattle.lf_coverage.specs.Calls.{instance}
use Rattle.lf_coverage.specs.Leaf.{IsTypedPattern}
use Rattle.lf_numbered.specs.EntryConstants.{IsFreeFrom}
use Rattle.lf_numbered.specs.EntryPatternsRuns.{IsCoveredByNumber, IsNumberedLeaf}
use Rattle.lf_numbered.specs.EntryTerms.{MatchesByNumber}
use Rattle.lf_numbered.specs.NumberedCalls.{HasTypedBlock, IsSetting, IsFor, NumberedCoverNeeds, NumberedInputGoalIs, NumberedInputGoalNeeds, NumberedMatchedIs, NumberedMatchedNeeds, NumberedOutputGoalIs, NumberedOutputGoalNeeds, NumberedSplitIs, NumberedSplitNeeds, numbered_cases}
use Rattle.lf_numbered.specs.NumberedCallsOutside.{IsSplitCaseByNumber}
use Rattle.lf_numbered.specs.NumberedCallsReached.{ReachedByNumber, numbered_candidates}
use Rattle.lf_numbered.specs.NumberedCase.{NumberedCase}
use Rattle.lf_numbered.specs.NumberedInstance.{IsNumberedInstanceOf, KeepsNumbersApart}
use Rattle.lf_numbered.specs.TypedNumbered.{IsTypedNumberedCase}

-- Heads of the family a, each typed by itself, and its block too, where it is an entry's.
abbrev pub AreTypedHeads : Signature → ℕ → List Pattern → Type 0
AreTypedHeads Σ a ps = (p : Pattern) → Member p ps → IsTypedPattern Σ p × (p ≡ head_pattern p.clause p.origin) × (target p.type ≡ a) × HasTypedBlock Σ p.origin

-- The heads of clauses of the signature and of typed blocks are such.
abbrev pub ClauseHeadsAreTyped : Type 0
ClauseHeadsAreTyped = (Σ : Signature) → IsSignature Σ → (W : List Block) → AreTypedBlocks Σ W → (a : ℕ) (ps : List Pattern) → AreHeadsOf Σ W a ps → AreTypedHeads Σ a ps

-- The goal of inputs of a family has what `cover` needs for heads of this family: plus X Y _ for plus-z and plus-s.
abbrev pub InputGoalHasNeeds : Type 0
InputGoalHasNeeds = (Σ : Signature) (first : ℕ) (W : List Block) → IsSetting Σ first W → (below : ℕ → ℕ → Bool) → ((f : ℕ) → IsBelowTest Σ W (below f) f) → (a : ℕ) (m : List Bool) (K : Kind) → NumberedInputGoalNeeds Σ first a m K → (C : NumberedCase) → NumberedInputGoalIs first a m K C → (ps : List Pattern) → AreTypedHeads Σ a ps → NumberedCoverNeeds Σ first W below ps C

-- The goal of the outputs of a subgoal, of an entry's clause too, has it for the subgoal.
abbrev pub OutputGoalHasNeeds : Type 0
OutputGoalHasNeeds = (Σ : Signature) (first : ℕ) (W : List Block) (below : ℕ → ℕ → Bool) (m : ℕ → List Mark) (c : Clause) (o : Origin c) (U : ℕ → Bool) (A : LfType) (K : Kind) → NumberedOutputGoalNeeds Σ first W below m o U A K → (C : NumberedCase) (p : Pattern) → NumberedOutputGoalIs first below m o U A K C p → NumberedCoverNeeds Σ first W below (p ∷ []) C

-- What is a pattern for a case is one for each case that a split of it gives, and for each that is listed.
abbrev pub SplitKeepsNeeds : Type 0
SplitKeepsNeeds = (Σ : Signature) (first : ℕ) (W : List Block) (below : ℕ → ℕ → Bool) (C : NumberedCase) (x : ℕ) → NumberedSplitNeeds Σ first W below C x → (D : NumberedCase) → IsSplitCaseByNumber Σ first W below C x D → (p : Pattern) → IsFor Σ first W C p → NumberedMatchedNeeds Σ first W D p

abbrev pub ListedKeepNeeds : Type 0
ListedKeepNeeds = (Σ : Signature) (first : ℕ) (W : List Block) (below : ℕ → ℕ → Bool) (C : NumberedCase) (x : ℕ) → NumberedSplitNeeds Σ first W below C x → (Cs : List NumberedCase) → NumberedSplitIs Σ first W below C x (numbered_cases Cs) → (D : NumberedCase) → Member D Cs → (p : Pattern) → IsFor Σ first W C p → NumberedMatchedNeeds Σ first W D p

-- So along the strategy: each case that it reaches has what `instance_of` needs for each pattern of the list, and what `split` needs at each candidate.
abbrev pub ReachedHasNeeds : Type 0
ReachedHasNeeds = (Σ : Signature) (first : ℕ) (W : List Block) (below : ℕ → ℕ → Bool) (ps : List Pattern) (goal : NumberedCase) → NumberedCoverNeeds Σ first W below ps goal → (D : NumberedCase) → ReachedByNumber Σ first W below ps goal D → (p : Pattern) → Member p ps → NumberedMatchedNeeds Σ first W D p × ((x : ℕ) → Member x (numbered_candidates first D p) → NumberedSplitNeeds Σ first W below D x)

-- Where a case has what `instance_of` needs, matching by terms decides whether it is an instance of the pattern.
abbrev pub NeededInstanceIsDecided : Type 0
NeededInstanceIsDecided = (Σ : Signature) (first : ℕ) (W : List Block) (C : NumberedCase) (p : Pattern) → NumberedMatchedNeeds Σ first W C p → (NumberedMatchedIs Σ first W C p instance ↔ MatchesByNumber first C p) × Dec (NumberedMatchedIs Σ first W C p instance)

-- An instance is covered by the pattern, beside each set, and is a leaf of a run.
abbrev pub NeededInstanceCovers : Type 0
NeededInstanceCovers = (Σ : Signature) (first : ℕ) (W : List Block) (C : NumberedCase) (p : Pattern) → NumberedMatchedNeeds Σ first W C p → NumberedMatchedIs Σ first W C p instance → ((S : ℕ → Bool) → IsCoveredByNumber Σ first W S (p ∷ []) C) × ((ps : List Pattern) → Member p ps → IsNumberedLeaf Σ first W ps C)

-- Each case that the strategy reaches is a typed instance of the goal, in which each block variable keeps its number: what a missing case shows is one.
abbrev pub ReachedIsNumberedInstance : Type 0
ReachedIsNumberedInstance = (Σ : Signature) → IsSignature Σ → (W : List Block) → AreTypedBlocks Σ W → (first : ℕ) → IsFreeFrom Σ first → (below : ℕ → ℕ → Bool) (ps : List Pattern) (goal : NumberedCase) → IsTypedNumberedCase Σ first W goal → (D : NumberedCase) → ReachedByNumber Σ first W below ps goal D → ((σ : ℕ → Image) × IsNumberedInstanceOf Σ first D goal (λ k. k) σ) × KeepsNumbersApart goal (λ k. k)
