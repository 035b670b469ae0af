-- Runs by number of splits at candidates: they cover their goal beside each set beside which coverage is asked, whatever the worlds are, and whatever the
-- families of what its variables take.
use Rattle.std.specs.Prelude.{◌≡◌, ℕ, List, [], ◌∷◌, length, Bool, true, Some}
use Rattle.lf.specs.Syntax.{LfType, Kind}
use Rattle.lf.specs.Typing.{Signature, IsSignature, IsType}
use Rattle.lf.specs.Variables.{target, binders, everything, nothing, Within}
use Rattle.lf.specs.Subordination.{Block, AreTypedBlocks, IsBelowTest, IsDeclared, Member, SelfContained}
use Rattle.lf_checks.specs.Below.{IsSubordination}
use Rattle.lf_checks.specs.Clause.{Clause, IsClause, IsSubgoal, outside, scope}
use Rattle.lf_checks.specs.Ground.{UsesGoal}
use Rattle.lf_checks.specs.Marks.{Mark, HasSoundMarks, MentionChosenOnly, NoneFree, input_places}
use Rattle.lf_checks.specs.Worlded.{IsSequence}
use Rattle.lf_cases.specs.Case.{input_goal}
use Rattle.lf_cases.specs.Cover.{CoveredOutputs}
use Rattle.lf_cases.specs.Pattern.{AreHeadsOf, Pattern, origin, subgoal_pattern}
use Rattle.lf_cases.specs.Split.{Ends}
use Rattle.lf_coverage.specs.Calls.{CoverIs, covered}
use Rattle.lf_coverage.specs.Leaf.{IsTypedPattern}
use Rattle.lf_coverage.specs.Matching.{HoldsTypes}
use Rattle.lf_coverage.specs.Subordinate.{AllQuantifiersAreBelow}
use Rattle.lf_numbered.specs.EntryConstants.{IsFreeFrom}
use Rattle.lf_numbered.specs.EntryPatternsOutputs.{numbered_output_goal}
use Rattle.lf_numbered.specs.EntryPatternsRuns.{HasOneBlock, IsNumberedLeaf, IsNumberedSplit}
use Rattle.lf_numbered.specs.NumberedBeside.{IsUnifiedByNumber, TakesBelow, TakesIn}
use Rattle.lf_numbered.specs.NumberedBesideGiven.{IsTypedBesideByNumber}
use Rattle.lf_numbered.specs.NumberedCalls.{NumberedCoverIs, NumberedSplitIs, all_covered, numbered_cases}
use Rattle.lf_numbered.specs.NumberedCallsReached.{numbered_candidates, FirstCandidateByNumber}
use Rattle.lf_numbered.specs.NumberedCase.{NumberedCase}
use Rattle.lf_numbered.specs.NumberedSplits.{IsAnsweredByNumber}
use Rattle.lf_numbered.specs.Numbering.{numbered}
use Rattle.lf_numbered.specs.TypedNumbered.{IsTypedNumberedCase}

-- A split is one beside each self-contained set that has the family of the variable, and with the own family of an argument all those in the argument's type. The
-- families of other arguments need not be in it: no term of a family in the set uses a variable of them. So Y : {x:exp} nat may be split beside {nat}.
abbrev pub TakerByNumberIsSplit : Type 0
TakerByNumberIsSplit = (Σ : Signature) → IsSignature Σ → (W : List Block) → AreTypedBlocks Σ W → (below : ℕ → ℕ → Bool) → IsSubordination Σ W below → (S : ℕ → Bool) → SelfContained Σ W S → (first : ℕ) → IsFreeFrom Σ first → (C : NumberedCase) → IsTypedNumberedCase Σ first W C → (x : ℕ) (Cs : List NumberedCase) (sp : IsAnsweredByNumber Σ first W below C x Cs) → TakesIn S sp.type → IsNumberedSplit Σ first W S C Cs

-- Where what the variable takes quantifies only over what is below, the families in the types of what it and the heads take are below their own: nothing is
-- asked of the worlds, nor of other variables.
abbrev pub UnifiedTakerIsAnswered : Type 0
UnifiedTakerIsAnswered = (Σ : Signature) → IsSignature Σ → (W : List Block) → AreTypedBlocks Σ W → (below : ℕ → ℕ → Bool) → ((f : ℕ) → IsBelowTest Σ W (below f) f) → (first : ℕ) → IsFreeFrom Σ first → (C : NumberedCase) → IsTypedNumberedCase Σ first W C → (x : ℕ) (Cs : List NumberedCase) (sp : IsUnifiedByNumber Σ first W below C x Cs) → TakesBelow below sp.type → (an : IsAnsweredByNumber Σ first W below C x Cs) × (an.type ≡ sp.type)

-- A case is split at a candidate of one of the patterns, at each head of which unification answers.
abbrev pub UnifiesCandidate : Signature → ℕ → List Block → (ℕ → ℕ → Bool) → List Pattern → NumberedCase → List NumberedCase → Type 0
UnifiesCandidate Σ first W below ps C Cs = (x : ℕ) × (p : Pattern) × Member p ps × Member x (numbered_candidates first C p) × IsUnifiedByNumber Σ first W below C x Cs

-- So it is at the first candidate among the patterns that meet it, at which the strategy splits.
abbrev pub FirstIsCandidateByNumber : Type 0
FirstIsCandidateByNumber = (Σ : Signature) (first : ℕ) (W : List Block) (C : NumberedCase) (x : ℕ) (ps : List Pattern) → FirstCandidateByNumber Σ first W C x ps → (p : Pattern) × Member p ps × Member x (numbered_candidates first C p)

-- A run of such splits to instances of patterns answers that the goal is covered: beside each set beside which this is asked. The goal is typed beside some
-- pattern, has one block variable at most, and as many local variables as each pattern, whose types quantify only over what is below.
abbrev pub NumberedCandidateRunCovers : Type 0
NumberedCandidateRunCovers = (Σ : Signature) → IsSignature Σ → (W : List Block) → AreTypedBlocks Σ W → (below : ℕ → ℕ → Bool) → ((f : ℕ) → IsBelowTest Σ W (below f) f) → (first : ℕ) → IsFreeFrom Σ first → (ps : List Pattern) (q : Pattern) → IsTypedPattern Σ q → (goal : NumberedCase) → HasOneBlock goal → IsTypedBesideByNumber Σ first W goal q → ((p : Pattern) → Member p ps → length goal.local ≡ length (binders [] p.type)) → AllQuantifiersAreBelow below goal.local → Ends (IsNumberedLeaf Σ first W ps) (UnifiesCandidate Σ first W below ps) goal → NumberedCoverIs Σ first W below ps goal all_covered

-- So is a run of the strategy, whose splits are answers of the split at the first candidate.
abbrev pub AnswersFirst : Signature → ℕ → List Block → (ℕ → ℕ → Bool) → List Pattern → NumberedCase → List NumberedCase → Type 0
AnswersFirst Σ first W below ps C Cs = (x : ℕ) × FirstCandidateByNumber Σ first W C x ps × NumberedSplitIs Σ first W below C x (numbered_cases Cs)

abbrev pub NumberedStrategyRunCovers : Type 0
NumberedStrategyRunCovers = (Σ : Signature) → IsSignature Σ → (W : List Block) → AreTypedBlocks Σ W → (below : ℕ → ℕ → Bool) → ((f : ℕ) → IsBelowTest Σ W (below f) f) → (first : ℕ) → IsFreeFrom Σ first → (ps : List Pattern) (q : Pattern) → IsTypedPattern Σ q → (goal : NumberedCase) → HasOneBlock goal → IsTypedBesideByNumber Σ first W goal q → ((p : Pattern) → Member p ps → length goal.local ≡ length (binders [] p.type)) → AllQuantifiersAreBelow below goal.local → Ends (IsNumberedLeaf Σ first W ps) (AnswersFirst Σ first W below ps) goal → NumberedCoverIs Σ first W below ps goal all_covered

-- From the goal of inputs nothing is asked but that U is a closed type of the family, as each clause of it gives, and that patterns are heads.
abbrev pub NumberedCandidateRunCoversInputs : Type 0
NumberedCandidateRunCoversInputs = (Σ : Signature) → IsSignature Σ → (W : List Block) → AreTypedBlocks Σ W → (below : ℕ → ℕ → Bool) → ((f : ℕ) → IsBelowTest Σ W (below f) f) → (first : ℕ) → IsFreeFrom Σ first → (ps : List Pattern) → ((p : Pattern) → Member p ps → binders [] p.type ≡ []) → (a : ℕ) (m : List Bool) (K : Kind) → Σ.kinds a ≡ Some K → MentionChosenOnly nothing m K → (U : LfType) → IsType Σ [] U → target U ≡ a → Ends (IsNumberedLeaf Σ first W ps) (UnifiesCandidate Σ first W below ps) (numbered first (input_goal a m K)) → NumberedCoverIs Σ first W below ps (numbered first (input_goal a m K)) all_covered × CoverIs Σ W below ps (input_goal a m K) covered

-- So nothing is asked where the patterns are heads of clauses of the family.
abbrev pub NumberedCandidateRunCoversHeads : Type 0
NumberedCandidateRunCoversHeads = (Σ : Signature) → IsSignature Σ → (W : List Block) → AreTypedBlocks Σ W → (below : ℕ → ℕ → Bool) → ((f : ℕ) → IsBelowTest Σ W (below f) f) → (first : ℕ) → IsFreeFrom Σ first → (a : ℕ) (ps : List Pattern) → AreHeadsOf Σ W a ps → (m : List Bool) (K : Kind) → Σ.kinds a ≡ Some K → MentionChosenOnly nothing m K → Ends (IsNumberedLeaf Σ first W ps) (UnifiesCandidate Σ first W below ps) (numbered first (input_goal a m K)) → NumberedCoverIs Σ first W below ps (numbered first (input_goal a m K)) all_covered × CoverIs Σ W below ps (input_goal a m K) covered

-- Nor is it from the goal of the outputs of any clause's subgoal, an entry's too, where what is ground holds the variables in the types of its variables.
abbrev pub NumberedCandidateRunCoversOutputs : Type 0
NumberedCandidateRunCoversOutputs = (Σ : Signature) → IsSignature Σ → (W : List Block) → AreTypedBlocks Σ W → (below : ℕ → ℕ → Bool) → ((f : ℕ) → IsBelowTest Σ W (below f) f) → (first : ℕ) → IsFreeFrom Σ first → (m : ℕ → List Mark) (c : Clause) (d : IsClause Σ W c) (U : ℕ → Bool) → Within (outside c.type everything) U → HoldsTypes U (scope c) → (i : ℕ) (A : LfType) → IsSubgoal c i A → UsesGoal U (input_places (m (target A))) A → HasSoundMarks Σ (target A) (m (target A)) → NoneFree (m (target A)) → (K : Kind) → Σ.kinds (target A) ≡ Some K → Ends (IsNumberedLeaf Σ first W (subgoal_pattern c (origin d) A ∷ [])) (UnifiesCandidate Σ first W below (subgoal_pattern c (origin d) A ∷ [])) (numbered_output_goal first below m (origin d) U A K) → NumberedCoverIs Σ first W below (subgoal_pattern c (origin d) A ∷ []) (numbered_output_goal first below m (origin d) U A K) all_covered

-- So the outputs of the subgoal are covered where there is such a run for each way in which the clause comes, beside the families below one that the clause's is
-- below. Where what is ground doesn't hold the variables in the types of its variables, there are no outputs to be covered, and the runs aren't used.
abbrev pub NumberedCandidateRunGivesOutputs : Type 0
NumberedCandidateRunGivesOutputs = (Σ : Signature) → IsSignature Σ → (W : List Block) → AreTypedBlocks Σ W → (below : ℕ → ℕ → Bool) → ((f : ℕ) → IsBelowTest Σ W (below f) f) → (first : ℕ) → IsFreeFrom Σ first → (m : ℕ → List Mark) (f : ℕ) → IsDeclared Σ f → (c : Clause) → IsClause Σ W c → below f (target c.type) ≡ true → (U : ℕ → Bool) → Within (outside c.type everything) U → (i : ℕ) (A : LfType) → IsSubgoal c i A → IsSequence Σ W (scope c) (binders [] A) → UsesGoal U (input_places (m (target A))) A → HasSoundMarks Σ (target A) (m (target A)) → NoneFree (m (target A)) → (K : Kind) → Σ.kinds (target A) ≡ Some K → ((d : IsClause Σ W c) → Ends (IsNumberedLeaf Σ first W (subgoal_pattern c (origin d) A ∷ [])) (UnifiesCandidate Σ first W below (subgoal_pattern c (origin d) A ∷ [])) (numbered_output_goal first below m (origin d) U A K)) → CoveredOutputs Σ m W (below f) c U A
