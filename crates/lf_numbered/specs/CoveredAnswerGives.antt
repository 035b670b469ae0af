-- From the answers of `cover` to what totality takes on trust. Where the numbered goals of a family's inputs and of
-- its clauses' subgoals are answered to be covered, inputs and outputs are covered, as a record of a checked group has
-- it: beside the families below the family, and below the clause's own.
use Rattle.std.specs.Prelude.{◌≡◌, ℕ, List, [], ◌∷◌, Bool, true, Some}
use Rattle.lf.specs.Syntax.{LfType, Kind}
use Rattle.lf.specs.Typing.{Signature, IsSignature}
use Rattle.lf.specs.Variables.{target, binders, everything, Within}
use Rattle.lf.specs.Subordination.{Block, AreTypedBlocks, IsBelowTest, IsDeclared, Member, SelfContained}
use Rattle.lf_checks.specs.Clause.{Clause, IsClause, IsSubgoal, outside, scope}
use Rattle.lf_checks.specs.Ground.{UsesGoal}
use Rattle.lf_checks.specs.Marks.{Mark, HasSoundMarks, NoneFree, input_places}
use Rattle.lf_checks.specs.Worlded.{IsSequence}
use Rattle.lf_cases.specs.Cover.{CoveredInputs, CoveredOutputs}
use Rattle.lf_cases.specs.Pattern.{AreHeadsOf, Origin, Pattern, origin, subgoal_pattern}
use Rattle.lf_totality.specs.Checks.{AreAllBelow}
use Rattle.lf_numbered.specs.EntryConstants.{IsFreeFrom}
use Rattle.lf_numbered.specs.EntryPatternsOutputs.{numbered_output_goal}
use Rattle.lf_coverage.specs.Matching.{HoldsTypes}
use Rattle.lf_numbered.specs.NumberedCalls.{IsBesideByNumber, IsSetting, NumberedCoverIs, NumberedInputGoalIs, NumberedInputGoalNeeds, NumberedOutputGoalIs, NumberedOutputGoalNeeds, all_covered}
use Rattle.lf_numbered.specs.NumberedCase.{NumberedCase}

-- The goal of a family's inputs is to be covered beside each self-contained set that has the family: plus X Y _ beside
-- that of nat and plus. It is so too beside that of nat alone, which has all that its places need; and beside none
-- without nat.
abbrev pub NumberedInputGoalIsBesideFamilies : Type 0
NumberedInputGoalIsBesideFamilies = (Σ : Signature) (W : List Block) (first a : ℕ) (b : List Bool) (K : Kind) → Σ.kinds a ≡ Some K → (C : NumberedCase) → NumberedInputGoalIs first a b K C → (S : ℕ → Bool) → SelfContained Σ W S → S a ≡ true → IsBesideByNumber Σ W S C

-- And the goal of the outputs of a clause's subgoal, an entry's too, is so beside each that has the clause's family.
abbrev pub NumberedOutputGoalIsBesideFamilies : Type 0
NumberedOutputGoalIsBesideFamilies = (Σ : Signature) (W : List Block) (below : ℕ → ℕ → Bool) (m : ℕ → List Mark) (first : ℕ) (c : Clause) (d : IsClause Σ W c) (U : ℕ → Bool) (i : ℕ) (A : LfType) → IsSubgoal c i A → (K : Kind) → Σ.kinds (target A) ≡ Some K → (C : NumberedCase) (p : Pattern) → NumberedOutputGoalIs first below m (origin d) U A K C p → (S : ℕ → Bool) → SelfContained Σ W S → S (target c.type) ≡ true → IsBesideByNumber Σ W S C

-- The inputs of a family are covered where the answer for their goal and heads of the family's clauses is so. With
-- plus-z and plus-s the goal plus X Y _ is answered to be covered, so the inputs of plus are. Without plus-z the
-- answer is a missing case, and nothing follows.
abbrev pub CoveredAnswerGivesInputs : Type 0
CoveredAnswerGivesInputs = (Σ : Signature) (first : ℕ) (W : List Block) → IsSetting Σ first W → (below : ℕ → ℕ → Bool) → ((f : ℕ) → IsBelowTest Σ W (below f) f) → (m : ℕ → List Mark) (a : ℕ) (K : Kind) → NumberedInputGoalNeeds Σ first a (input_places (m a)) K → (C : NumberedCase) → NumberedInputGoalIs first a (input_places (m a)) K C → (ps : List Pattern) → AreHeadsOf Σ W a ps → NumberedCoverIs Σ first W below ps C all_covered → CoveredInputs Σ m W (below a) a

-- The goal of the outputs of a subgoal, for one of the ways in which its clause comes, is answered to be covered by
-- the subgoal.
abbrev pub OutputGoalIsCovered : Signature → ℕ → List Block → (ℕ → ℕ → Bool) → (ℕ → List Mark) → {c : Clause} → Origin c → (ℕ → Bool) → LfType → Kind → Type 0
OutputGoalIsCovered Σ first W below m o U A K = (C : NumberedCase) × (p : Pattern) × NumberedOutputGoalIs first below m o U A K C p × NumberedCoverIs Σ first W below (p ∷ []) C all_covered

-- The outputs of a subgoal are covered where this is the answer for each way in which the clause comes, from a
-- constant or an entry: beside the families below one that the clause's is below. Where what is ground doesn't hold
-- the variables in the types of its variables, no answer is needed.
abbrev pub AnswersGiveOutputs : Type 0
AnswersGiveOutputs = (Σ : Signature) → IsSignature Σ → (W : List Block) → AreTypedBlocks Σ W → (below : ℕ → ℕ → Bool) → ((f : ℕ) → IsBelowTest Σ W (below f) f) → (first : ℕ) → IsFreeFrom Σ first → (m : ℕ → List Mark) (f : ℕ) → IsDeclared Σ f → (c : Clause) → IsClause Σ W c → below f (target c.type) ≡ true → (U : ℕ → Bool) → Within (outside c.type everything) U → (i : ℕ) (A : LfType) → IsSubgoal c i A → IsSequence Σ W (scope c) (binders [] A) → UsesGoal U (input_places (m (target A))) A → HasSoundMarks Σ (target A) (m (target A)) → NoneFree (m (target A)) → (K : Kind) → Σ.kinds (target A) ≡ Some K → (HoldsTypes U (scope c) → (d : IsClause Σ W c) → NumberedCoverIs Σ first W below (subgoal_pattern c (origin d) A ∷ []) (numbered_output_goal first below m (origin d) U A K) all_covered) → CoveredOutputs Σ m W (below f) c U A

-- So it is from what `output_goal` needs, for whichever way it is asked, where the subgoal's local context is one of
-- the worlds. The subgoal q n D of v in some {n:exp} block {v:({D:t n} q n D -> r)} has one goal, that of v. Where a
-- constant has the type of an entry of W too, there are two, and both are asked for.
abbrev pub CoveredAnswerGivesOutputs : Type 0
CoveredAnswerGivesOutputs = (Σ : Signature) (first : ℕ) (W : List Block) (below : ℕ → ℕ → Bool) (m : ℕ → List Mark) (c : Clause) (o : Origin c) (U : ℕ → Bool) (A : LfType) (K : Kind) → NumberedOutputGoalNeeds Σ first W below m o U A K → IsSequence Σ W (scope c) (binders [] A) → ((d : IsClause Σ W c) → OutputGoalIsCovered Σ first W below m (origin d) U A K) → CoveredOutputs Σ m W (below (target c.type)) c U A

-- All in these sets is below the family, by the blocks of W and more: `conclude` asks it of them.
abbrev pub TestedAreAllBelow : Type 0
TestedAreAllBelow = (Σ : Signature) (W V : List Block) → ((B : Block) → Member B W → Member B V) → (below : ℕ → ℕ → Bool) → ((f : ℕ) → IsBelowTest Σ W (below f) f) → (f : ℕ) → AreAllBelow Σ V (below f) f
