-- The answers of the calls by number, where what they need is so: nothing else is asked.
use Rattle.std.specs.Prelude.{◌≡◌, ℕ, List, Bool, true, false, ◌↔◌}
use Rattle.lf.specs.Syntax.{LfType}
use Rattle.lf.specs.Substitution.{Image}
use Rattle.lf.specs.Typing.{Signature}
use Rattle.lf.specs.Variables.{everything, target}
use Rattle.lf.specs.Subordination.{Block, AreTypedBlocks, Member}
use Rattle.lf.specs.Worlds.{World}
use Rattle.lf.specs.Extension.{Extends}
use Rattle.lf_checks.specs.Clause.{outside}
use Rattle.lf_cases.specs.Pattern.{Pattern, is_given}
use Rattle.lf_cases.specs.Split.{Ends}
use Rattle.lf_coverage.specs.Calls.{instance}
use Rattle.lf_coverage.specs.Leaf.{IsTypedPattern}
use Rattle.lf_numbered.specs.EntryPatternsRuns.{IsCoveredByNumber}
use Rattle.lf_numbered.specs.EntryTerms.{MatchesByNumber}
use Rattle.lf_numbered.specs.NumberedCalls.{HasTypedBlock, IsFor, IsHeadFor, IsSubgoalFor, ListsCases, NumberedCoverIs, NumberedCoverNeeds, NumberedMatchedIs, NumberedSplitIs, NumberedSplitNeeds, all_covered, numbered_cases, one_missing}
use Rattle.lf_numbered.specs.NumberedCallsLaws.{AnswersForGoal}
use Rattle.lf_numbered.specs.NumberedCallsMeeting.{SharesInstance}
use Rattle.lf_numbered.specs.NumberedCallsReached.{FirstCandidateByNumber, ReachedByNumber}
use Rattle.lf_numbered.specs.NumberedCase.{NumberedCase, IsNumberedInstance}
use Rattle.lf_numbered.specs.NumberedInstance.{IsNumberedInstanceOf}

-- A typed head of the case's family, with arguments that have the types of their places and a typed block, if it is an entry's, is a pattern for the case; and
-- so is a typed subgoal beside which the case is typed, over typed blocks, where terms are given for variables of the clause itself. The rest follows.
abbrev pub HeadIsFor : Type 0
HeadIsFor = (Σ : Signature) (first : ℕ) (W : List Block) (C : NumberedCase) (p : Pattern) → IsTypedPattern Σ p → HasTypedBlock Σ p.origin → target p.type ≡ C.family → IsHeadFor Σ first C p → IsFor Σ first W C p

abbrev pub SubgoalIsFor : Type 0
SubgoalIsFor = (Σ : Signature) (first : ℕ) (W : List Block) → AreTypedBlocks Σ W → (C : NumberedCase) (p : Pattern) → IsTypedPattern Σ p → ((i : ℕ) → is_given C.given i ≡ true → outside p.clause.type everything i ≡ false) → IsSubgoalFor Σ first W C p → IsFor Σ first W C p

-- Of each case that the strategy reaches and each pattern of the list it is decided by terms whether the case is an instance.
abbrev pub ReachedIsDecided : Type 0
ReachedIsDecided = (Σ : Signature) (first : ℕ) (W : List Block) (below : ℕ → ℕ → Bool) (ps : List Pattern) (goal : NumberedCase) → NumberedCoverNeeds Σ first W below ps goal → (D : NumberedCase) → ReachedByNumber Σ first W below ps goal D → (p : Pattern) → Member p ps → (NumberedMatchedIs Σ first W D p instance ↔ MatchesByNumber first D p) × Dec (NumberedMatchedIs Σ first W D p instance)

-- And it may be split at its first candidate.
abbrev pub ReachedMayBeSplit : Type 0
ReachedMayBeSplit = (Σ : Signature) (first : ℕ) (W : List Block) (below : ℕ → ℕ → Bool) (ps : List Pattern) (goal : NumberedCase) → NumberedCoverNeeds Σ first W below ps goal → (D : NumberedCase) → ReachedByNumber Σ first W below ps goal D → (x : ℕ) → FirstCandidateByNumber Σ first W D x ps → NumberedSplitNeeds Σ first W below D x

-- The cases that unification gives for the heads, in order, are the answer of `split`.
abbrev pub NeededSplitIsAnswer : Type 0
NeededSplitIsAnswer = (Σ : Signature) (first : ℕ) (W : List Block) (below : ℕ → ℕ → Bool) (C : NumberedCase) (x : ℕ) → NumberedSplitNeeds Σ first W below C x → (Cs : List NumberedCase) → ListsCases Σ first W below C x Cs → NumberedSplitIs Σ first W below C x (numbered_cases Cs)

-- A run of splits from the goal, each case at whose end is an instance of a pattern of the list, has the answer that it is covered. At the ends nothing else
-- is asked: that they are typed and that the patterns are ones for them follows.
abbrev pub NeededRunIsCovered : Type 0
NeededRunIsCovered = (Σ : Signature) (first : ℕ) (W : List Block) (below : ℕ → ℕ → Bool) (ps : List Pattern) (goal : NumberedCase) → NumberedCoverNeeds Σ first W below ps goal → Ends (λ D. (p : Pattern) × Member p ps × NumberedMatchedIs Σ first W D p instance) (AnswersForGoal Σ first W below goal) goal → NumberedCoverIs Σ first W below ps goal all_covered

-- A missing case is a typed instance of the goal, in which each block variable keeps its number, and shares no typed instance with a pattern of the list;
-- and where it has a ground instance, in some legal extension over S and some context of W beside S, the goal isn't covered beside S.
abbrev pub MissingIsHonest : Type 0
MissingIsHonest = (Σ : Signature) (first : ℕ) (W : List Block) (below : ℕ → ℕ → Bool) (ps : List Pattern) (goal : NumberedCase) → NumberedCoverNeeds Σ first W below ps goal → (D : NumberedCase) → NumberedCoverIs Σ first W below ps goal (one_missing D) → ((σ : ℕ → Image) × IsNumberedInstanceOf Σ first D goal (λ k. k) σ) × ((p : Pattern) → Member p ps → SharesInstance Σ first W D p → ⊥) × ((S : ℕ → Bool) (Σ' : Signature) → Extends S Σ Σ' → (G : List LfType) (w : World Σ' W S G) (θ : ℕ → ℕ → Image) (ρ : ℕ → Image) → IsNumberedInstance w first D θ ρ → IsCoveredByNumber Σ first W S ps goal → ⊥)
