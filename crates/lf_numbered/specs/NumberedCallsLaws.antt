-- The answers of the calls by number, and the tuples that a case holds.
use Rattle.std.specs.Prelude.{◌≡◌, ℕ, List, [], ◌∷◌, length, Bool, true, false, Some}
use Rattle.lf.specs.Syntax.{Spine, LfType, Kind}
use Rattle.lf.specs.Substitution.{Image}
use Rattle.lf.specs.Typing.{Signature, TypeAt, IsSignature}
use Rattle.lf.specs.Variables.{binders, everything, nothing}
use Rattle.lf.specs.Subordination.{Block, AreTypedBlocks, Member}
use Rattle.lf.specs.Worlds.{World}
use Rattle.lf.specs.Extension.{Extends}
use Rattle.lf_checks.specs.Below.{IsSubordination}
use Rattle.lf_checks.specs.Clause.{outside}
use Rattle.lf_checks.specs.Marks.{MentionChosenOnly}
use Rattle.lf_cases.specs.Case.{Case, covered_places}
use Rattle.lf_cases.specs.Pattern.{CoversTuple, Known, OneCovers, Pattern, is_given}
use Rattle.lf_coverage.specs.Calls.{CoverIs, covered, instance, apart}
use Rattle.lf_numbered.specs.EntryConstants.{IsFreeFrom}
use Rattle.lf_numbered.specs.EntryPatternsRuns.{HasOneBlock, HoldsByNumber, IsCoveredByNumber, IsLikeByNumber, IsNumberedLeaf}
use Rattle.lf_cases.specs.Split.{Ends}
use Rattle.lf_coverage.specs.Heads.{IsTypedCase}
use Rattle.lf_coverage.specs.Leaf.{IsTypedPattern}
use Rattle.lf_numbered.specs.NumberedBeside.{TakesIn}
use Rattle.lf_numbered.specs.NumberedCalls.{IsBesideByNumber, ListsCases, NumberedCoverIs, NumberedInputGoalIs, NumberedMatchedIs, NumberedSplitIs, all_covered, numbered_cases, one_missing}
use Rattle.lf_numbered.specs.NumberedCallsMeeting.{IsKnownFor, SharesInstance, zeroth_known}
use Rattle.lf_numbered.specs.NumberedCallsReached.{ReachedByNumber, numbered_candidates}
use Rattle.lf_numbered.specs.NumberedCase.{NumberedCase, IsNumberedInstance}
use Rattle.lf_numbered.specs.NumberedSplits.{IsAnsweredByNumber}
use Rattle.lf_numbered.specs.Numbering.{numbered}
use Rattle.lf_numbered.specs.TypedNumbered.{IsTypedNumberedCase}

-- An instance: the pattern covers each tuple that the case holds, beside each set. Given terms stand for variables of the clause itself.
abbrev pub InstanceCovers : Type 0
InstanceCovers = (Σ : Signature) → IsSignature Σ → (W : List Block) → AreTypedBlocks Σ W → (first : ℕ) → IsFreeFrom Σ first → (C : NumberedCase) → IsTypedNumberedCase Σ first W C → (p : Pattern) → IsTypedPattern Σ p → length C.local ≡ length (binders [] p.type) → ((i : ℕ) → is_given C.given i ≡ true → outside p.clause.type everything i ≡ false) → NumberedMatchedIs Σ first W C p instance → (S : ℕ → Bool) → IsCoveredByNumber Σ first W S (p ∷ []) C

-- Apart: the pattern covers no tuple that the case holds, beside no set, in no legal extension and no context, whether block variables stand for different
-- instances or not. For an entry of the first block variable alone it is known what that of number 0 stands for.
abbrev pub ApartCoversNone : Type 0
ApartCoversNone = (Σ : Signature) (W : List Block) → AreTypedBlocks Σ W → (first : ℕ) (C : NumberedCase) (p : Pattern) → NumberedMatchedIs Σ first W C p apart → (S : ℕ → Bool) (Σ' : Signature) → Extends S Σ Σ' → (G : List LfType) (w : World Σ' W S G) (F : Known) (σ : ℕ → Image) (T : Spine) (h : HoldsByNumber w first C F σ T) → IsKnownFor p.origin p.at_first C h.instances F → CoversTuple w p (covered_places C.arguments) F C.given σ T → ⊥

-- The cases that unification gives for the heads, in order, are the answer of a split of a typed case.
abbrev pub AnsweredByNumberIsSplitAnswer : Type 0
AnsweredByNumberIsSplitAnswer = (Σ : Signature) → IsSignature Σ → (W : List Block) → AreTypedBlocks Σ W → (below : ℕ → ℕ → Bool) → IsSubordination Σ W below → (first : ℕ) → IsFreeFrom Σ first → (C : NumberedCase) → IsTypedNumberedCase Σ first W C → (x : ℕ) (Cs : List NumberedCase) → ListsCases Σ first W below C x Cs → NumberedSplitIs Σ first W below C x (numbered_cases Cs)

-- A case is split so at one of its variables, which has its own family in each set beside which the goal is to be covered, and with the own family of an
-- argument all those in the argument's type.
abbrev pub AnswersForGoal : Signature → ℕ → List Block → (ℕ → ℕ → Bool) → NumberedCase → NumberedCase → List NumberedCase → Type 0
AnswersForGoal Σ first W below goal C Cs = (x : ℕ) × (sp : IsAnsweredByNumber Σ first W below C x Cs) × ((S : ℕ → Bool) → IsBesideByNumber Σ W S goal → TakesIn S sp.type)

-- Covered: a run of such splits from a typed goal with one block variable at most, which ends at instances of patterns, has this answer.
abbrev pub AnsweredByNumberIsCovered : Type 0
AnsweredByNumberIsCovered = (Σ : Signature) → IsSignature Σ → (W : List Block) → AreTypedBlocks Σ W → (below : ℕ → ℕ → Bool) → IsSubordination Σ W below → (first : ℕ) → IsFreeFrom Σ first → (ps : List Pattern) (goal : NumberedCase) → IsTypedNumberedCase Σ first W goal → HasOneBlock goal → Ends (IsNumberedLeaf Σ first W ps) (AnswersForGoal Σ first W below goal) goal → NumberedCoverIs Σ first W below ps goal all_covered

-- And where the numbered form of a typed goal is covered so, the goal is.
abbrev pub CoveredIsCoveredGoal : Type 0
CoveredIsCoveredGoal = (Σ : Signature) → IsSignature Σ → (W : List Block) → AreTypedBlocks Σ W → (first : ℕ) → IsFreeFrom Σ first → (below : ℕ → ℕ → Bool) (ps : List Pattern) (goal : Case) → IsTypedCase Σ W goal → NumberedCoverIs Σ first W below ps (numbered first goal) all_covered → CoverIs Σ W below ps goal covered

-- Each case that the strategy reaches from a typed goal is typed.
abbrev pub ReachedByNumberIsTyped : Type 0
ReachedByNumberIsTyped = (Σ : Signature) → IsSignature Σ → (W : List Block) → AreTypedBlocks Σ W → (first : ℕ) → IsFreeFrom Σ first → (below : ℕ → ℕ → Bool) (ps : List Pattern) (goal : NumberedCase) → IsTypedNumberedCase Σ first W goal → (D : NumberedCase) → ReachedByNumber Σ first W below ps goal D → IsTypedNumberedCase Σ first W D

-- Each candidate is a free variable of the case, and has a type.
abbrev pub NumberedCandidateIsFree : Type 0
NumberedCandidateIsFree = (first : ℕ) (C : NumberedCase) (p : Pattern) (x : ℕ) → Member x (numbered_candidates first C p) → (X : LfType) × TypeAt C.variables x X

-- Missing: no pattern covers a tuple that the case holds, where it is known what the block variable of number 0 stands for.
abbrev pub MissingIsCoveredByNone : Type 0
MissingIsCoveredByNone = (Σ : Signature) (W : List Block) → AreTypedBlocks Σ W → (first : ℕ) (below : ℕ → ℕ → Bool) (ps : List Pattern) (goal D : NumberedCase) → NumberedCoverIs Σ first W below ps goal (one_missing D) → (S : ℕ → Bool) (Σ' : Signature) → Extends S Σ Σ' → (G : List LfType) (w : World Σ' W S G) (F : Known) (σ : ℕ → Image) (T : Spine) (h : HoldsByNumber w first D F σ T) → F ≡ zeroth_known D h.instances → OneCovers w ps (covered_places D.arguments) F D.given σ T → ⊥

-- So a missing case with a ground instance, in some legal extension over S and some context of W beside S, isn't covered beside S.
abbrev pub MissingIsUncovered : Type 0
MissingIsUncovered = (Σ : Signature) (W : List Block) → AreTypedBlocks Σ W → (first : ℕ) (below : ℕ → ℕ → Bool) (ps : List Pattern) (goal D : NumberedCase) → NumberedCoverIs Σ first W below ps goal (one_missing D) → (S : ℕ → Bool) (Σ' : Signature) → Extends S Σ Σ' → (G : List LfType) (w : World Σ' W S G) (θ : ℕ → ℕ → Image) (ρ : ℕ → Image) → IsNumberedInstance w first D θ ρ → IsCoveredByNumber Σ first W S ps D → ⊥

-- What is an instance of a pattern shares one with it: itself. So it isn't apart from it, and a missing case is an instance of no pattern of the list.
abbrev pub InstanceShares : Type 0
InstanceShares = (Σ : Signature) → IsSignature Σ → (W : List Block) → AreTypedBlocks Σ W → (first : ℕ) → IsFreeFrom Σ first → (C : NumberedCase) → IsTypedNumberedCase Σ first W C → (p : Pattern) → NumberedMatchedIs Σ first W C p instance → SharesInstance Σ first W C p

abbrev pub InstanceIsNotApart : Type 0
InstanceIsNotApart = (Σ : Signature) → IsSignature Σ → (W : List Block) → AreTypedBlocks Σ W → (first : ℕ) → IsFreeFrom Σ first → (C : NumberedCase) → IsTypedNumberedCase Σ first W C → (p : Pattern) → NumberedMatchedIs Σ first W C p instance → NumberedMatchedIs Σ first W C p apart → ⊥

abbrev pub MissingIsNoInstance : Type 0
MissingIsNoInstance = (Σ : Signature) → IsSignature Σ → (W : List Block) → AreTypedBlocks Σ W → (first : ℕ) → IsFreeFrom Σ first → (below : ℕ → ℕ → Bool) (ps : List Pattern) (goal D : NumberedCase) → NumberedCoverIs Σ first W below ps goal (one_missing D) → (p : Pattern) → Member p ps → NumberedMatchedIs Σ first W D p instance → ⊥

-- The goal of inputs is typed, and has no block variable.
abbrev pub NumberedInputGoalIsTyped : Type 0
NumberedInputGoalIsTyped = (Σ : Signature) → IsSignature Σ → (W : List Block) → AreTypedBlocks Σ W → (first : ℕ) → IsFreeFrom Σ first → (a : ℕ) (m : List Bool) (K : Kind) → Σ.kinds a ≡ Some K → MentionChosenOnly nothing m K → (C : NumberedCase) → NumberedInputGoalIs first a m K C → IsTypedNumberedCase Σ first W C × (C.blocks ≡ [])

-- Each case that the strategy reaches is like the goal: it has the family, arguments at the same places, and terms given for the same variables.
abbrev pub ReachedIsLikeGoal : Type 0
ReachedIsLikeGoal = (Σ : Signature) (first : ℕ) (W : List Block) (below : ℕ → ℕ → Bool) (ps : List Pattern) (goal D : NumberedCase) → ReachedByNumber Σ first W below ps goal D → IsLikeByNumber goal D
