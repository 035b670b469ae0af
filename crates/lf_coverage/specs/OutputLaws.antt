-- The laws of the goals of outputs that the functions of this crate carry.
use Rattle.std.specs.Prelude.{◌≡◌, ◌<◌, ℕ, suc, List, [], ◌∷◌, Bool, true, Some}
use Rattle.lf.specs.Syntax.{LfType, Kind}
use Rattle.lf.specs.Typing.{Signature, IsSignature}
use Rattle.lf.specs.Variables.{target, target_arguments, binders, everything, UsesType, Within}
use Rattle.lf.specs.Subordination.{Block, AreTypedBlocks, IsDeclared, SelfContained}
use Rattle.lf_unification.specs.Solving.{Never}
use Rattle.lf_checks.specs.Below.{IsSubordination}
use Rattle.lf_checks.specs.Clause.{Clause, IsClause, IsSubgoal, constant_clause, outside, scope}
use Rattle.lf_checks.specs.Ground.{UsesGoal, ground_first}
use Rattle.lf_checks.specs.GroundUntil.{ground_until}
use Rattle.lf_checks.specs.Marks.{Mark, HasSoundMarks, NoneFree, UsesPlaces, input_places}
use Rattle.lf_checks.specs.Modes.{WellModed}
use Rattle.lf_checks.specs.Worlded.{IsSequence}
use Rattle.lf_cases.specs.Case.{Case, items_context}
use Rattle.lf_cases.specs.Cover.{CoveredOutputs}
use Rattle.lf_cases.specs.OutputGoal.{outside_items, output_goal}
use Rattle.lf_cases.specs.Pattern.{Pattern, IsCoveredCase, of_constant, origin, subgoal_pattern}
use Rattle.lf_cases.specs.Raised.{PlacesBelow}
use Rattle.lf_cases.specs.Reached.{Reached}
use Rattle.lf_cases.specs.Split.{Ends, HasNoBlockVariable, HasOneBlockVariable}
use Rattle.lf_coverage.specs.Calls.{CoverIs, IsBeside, covered, missing}
use Rattle.lf_coverage.specs.Heads.{IsTypedCase}
use Rattle.lf_coverage.specs.Leaf.{IsInstanceLeaf}
use Rattle.lf_coverage.specs.Matching.{HoldsTypes}
use Rattle.lf_coverage.specs.MeetStore.{IsOpen, meet_store}
use Rattle.lf_coverage.specs.SplitStore.{AllFamiliesIn}
use Rattle.lf_coverage.specs.TypedCase.{IsTypedBeside}
use Rattle.lf_coverage.specs.TypedLocal.{HasTypedLocal}
use Rattle.lf_coverage.specs.UnifiedSplit.{SolvesEachHead}

-- The goal of the outputs of a subgoal, of a constant or of an entry, is typed by itself: where the subgoal's inputs and the types of its hypotheses
-- mention only what is ground before, the marks of its family are sound, and none is free. What is ground need not hold the variables in the types of
-- its variables.
abbrev pub OutputGoalIsTypedCase : Type 0
OutputGoalIsTypedCase = (Σ : Signature) → IsSignature Σ → (W : List Block) → AreTypedBlocks Σ W → (below : ℕ → ℕ → Bool) (m : ℕ → List Mark) (c : Clause) (d : IsClause Σ W c) (U : ℕ → Bool) (i : ℕ) (A : LfType) → IsSubgoal c i A → UsesGoal U (input_places (m (target A))) A → HasSoundMarks Σ (target A) (m (target A)) → NoneFree (m (target A)) → (K : Kind) → Σ.kinds (target A) ≡ Some K → IsTypedCase Σ W (output_goal below m (origin d) U A K) × HasTypedLocal Σ (output_goal below m (origin d) U A K) × HasOneBlockVariable (output_goal below m (origin d) U A K).items

-- And the goal of a constant's subgoal is typed beside it, where what is ground holds the variables in the types of its variables. Where it doesn't,
-- there are no values of what is ground and no outputs to be covered; the goal is typed by itself, but not beside the subgoal.
abbrev pub OutputGoalIsTyped : Type 0
OutputGoalIsTyped = (Σ : Signature) → IsSignature Σ → (W : List Block) → AreTypedBlocks Σ W → (below : ℕ → ℕ → Bool) (m : ℕ → List Mark) (k : ℕ) (T : LfType) → Σ.types k ≡ Some T → (U : ℕ → Bool) → HoldsTypes U (scope (constant_clause T)) → (i : ℕ) (A : LfType) → IsSubgoal (constant_clause T) i A → UsesGoal U (input_places (m (target A))) A → HasSoundMarks Σ (target A) (m (target A)) → NoneFree (m (target A)) → (K : Kind) → Σ.kinds (target A) ≡ Some K → IsTypedBeside Σ W (output_goal below m (of_constant T) U A K) (subgoal_pattern (constant_clause T) (of_constant T) A) × HasNoBlockVariable (output_goal below m (of_constant T) U A K).items

-- So the checks of modes give it: the goal of each subgoal of a well-moded clause is typed by itself, with what is ground before the subgoal.
abbrev pub ModedGoalsAreTyped : Type 0
ModedGoalsAreTyped = (Σ : Signature) → IsSignature Σ → (W : List Block) → AreTypedBlocks Σ W → (below : ℕ → ℕ → Bool) (m : ℕ → List Mark) (moded : ℕ → Bool) (c : Clause) (d : IsClause Σ W c) → WellModed Σ m moded c → (i : ℕ) (A : LfType) → IsSubgoal c i A → NoneFree (m (target A)) → (K : Kind) → Σ.kinds (target A) ≡ Some K → IsTypedCase Σ W (output_goal below m (origin d) (ground_until everything m c i) A K) × HasTypedLocal Σ (output_goal below m (origin d) (ground_until everything m c i) A K) × HasOneBlockVariable (output_goal below m (origin d) (ground_until everything m c i) A K).items

-- And beside the subgoal, for a constant: where the head's inputs mention only what they make ground, and each earlier subgoal only what is ground after
-- it. Just this `CoveredBy` asks of a clause that covers inputs, and `OutputsCovered` of a subgoal whose outputs are covered.
abbrev pub StrictGoalsAreTyped : Type 0
StrictGoalsAreTyped = (Σ : Signature) → IsSignature Σ → (W : List Block) → AreTypedBlocks Σ W → (below : ℕ → ℕ → Bool) (m : ℕ → List Mark) (moded : ℕ → Bool) (k : ℕ) (T : LfType) → Σ.types k ≡ Some T → WellModed Σ m moded (constant_clause T) → NoneFree (m (target T)) → UsesPlaces (ground_first m (constant_clause T)) (input_places (m (target T))) (target_arguments T) → (i : ℕ) (A : LfType) → IsSubgoal (constant_clause T) i A → ((j : ℕ) (B : LfType) → j < i → IsSubgoal (constant_clause T) j B → UsesType (ground_until everything m (constant_clause T) (suc j)) B) → NoneFree (m (target A)) → (K : Kind) → Σ.kinds (target A) ≡ Some K → IsTypedBeside Σ W (output_goal below m (of_constant T) (ground_until everything m (constant_clause T) i) A K) (subgoal_pattern (constant_clause T) (of_constant T) A) × HasNoBlockVariable (output_goal below m (of_constant T) (ground_until everything m (constant_clause T) i) A K).items

-- Where what is ground doesn't hold the variables in the types of its variables, no outputs are to be covered.
abbrev pub OpenOutputsAreCovered : Type 0
OpenOutputsAreCovered = (Σ : Signature) (m : ℕ → List Mark) (W : List Block) (S : ℕ → Bool) (c : Clause) (U : ℕ → Bool) (A : LfType) → (HoldsTypes U (scope c) → ⊥) → CoveredOutputs Σ m W S c U A

-- A run of splits, at each head of which unification answers, from the goal of outputs to instances of patterns covers the goal beside each
-- self-contained set that holds the family of the clause and, for an entry, the families in the types of its block. For an entry the goal has a block
-- variable, so this speaks of goals that are instances at once, or that are split at a variable without heads.
-- For a constant the sharper `AnsweredRunCoversOutputs` asks nothing of the families in types along the run.
abbrev pub SolvedRunCoversOutputs : Type 0
SolvedRunCoversOutputs = (Σ : Signature) → IsSignature Σ → (W : List Block) → AreTypedBlocks Σ W → (below : ℕ → ℕ → Bool) → IsSubordination Σ W below → (m : ℕ → List Mark) (c : Clause) (d : IsClause Σ W c) (U : ℕ → Bool) (i : ℕ) (A : LfType) → IsSubgoal c i A → UsesGoal U (input_places (m (target A))) A → HasSoundMarks Σ (target A) (m (target A)) → NoneFree (m (target A)) → (K : Kind) → Σ.kinds (target A) ≡ Some K → (ps : List Pattern) → Ends (IsInstanceLeaf Σ W ps) (SolvesEachHead Σ W below) (output_goal below m (origin d) U A K) → (S : ℕ → Bool) → SelfContained Σ W S → S (target c.type) ≡ true → AllFamiliesIn S (items_context (outside_items (origin d))) → IsCoveredCase Σ W S ps (output_goal below m (origin d) U A K)

-- So it is answered as covered where each set beside which this is asked holds the families in the types of its items.
abbrev pub SolvedRunAnswersOutputs : Type 0
SolvedRunAnswersOutputs = (Σ : Signature) → IsSignature Σ → (W : List Block) → AreTypedBlocks Σ W → (below : ℕ → ℕ → Bool) → IsSubordination Σ W below → (m : ℕ → List Mark) (c : Clause) (d : IsClause Σ W c) (U : ℕ → Bool) (i : ℕ) (A : LfType) → IsSubgoal c i A → UsesGoal U (input_places (m (target A))) A → HasSoundMarks Σ (target A) (m (target A)) → NoneFree (m (target A)) → (K : Kind) → Σ.kinds (target A) ≡ Some K → (ps : List Pattern) → ((S : ℕ → Bool) → IsBeside Σ W S (output_goal below m (origin d) U A K) → AllFamiliesIn S (items_context (output_goal below m (origin d) U A K).items)) → Ends (IsInstanceLeaf Σ W ps) (SolvesEachHead Σ W below) (output_goal below m (origin d) U A K) → CoverIs Σ W below ps (output_goal below m (origin d) U A K) covered

-- And the outputs of a constant's subgoal are covered where a run from their goal ends at instances of the subgoal.
-- The sharper `AnsweredRunGivesOutputs` asks nothing of the families in types along the run.
abbrev pub SolvedRunGivesOutputs : Type 0
SolvedRunGivesOutputs = (Σ : Signature) → IsSignature Σ → (W : List Block) → AreTypedBlocks Σ W → (below : ℕ → ℕ → Bool) → IsSubordination Σ W below → (m : ℕ → List Mark) (f : ℕ) → IsDeclared Σ f → (k : ℕ) (T : LfType) → Σ.types k ≡ Some T → below f (target T) ≡ true → (U : ℕ → Bool) → Within (outside T everything) U → (i : ℕ) (A : LfType) → IsSubgoal (constant_clause T) i A → IsSequence Σ W (scope (constant_clause T)) (binders [] A) → UsesGoal U (input_places (m (target A))) A → HasSoundMarks Σ (target A) (m (target A)) → NoneFree (m (target A)) → (K : Kind) → Σ.kinds (target A) ≡ Some K → PlacesBelow Σ below f K → Ends (IsInstanceLeaf Σ W (subgoal_pattern (constant_clause T) (of_constant T) A ∷ [])) (SolvesEachHead Σ W below) (output_goal below m (of_constant T) U A K) → CoveredOutputs Σ m W (below f) (constant_clause T) U A

-- And those of any clause's, where there is such a run for each way in which the clause comes.
abbrev pub SolvedRunsGiveOutputs : Type 0
SolvedRunsGiveOutputs = (Σ : Signature) → IsSignature Σ → (W : List Block) → AreTypedBlocks Σ W → (below : ℕ → ℕ → Bool) → IsSubordination Σ W below → (m : ℕ → List Mark) (f : ℕ) → IsDeclared Σ f → (c : Clause) → IsClause Σ W c → below f (target c.type) ≡ true → (U : ℕ → Bool) → Within (outside c.type everything) U → (i : ℕ) (A : LfType) → IsSubgoal c i A → IsSequence Σ W (scope c) (binders [] A) → UsesGoal U (input_places (m (target A))) A → HasSoundMarks Σ (target A) (m (target A)) → NoneFree (m (target A)) → (K : Kind) → Σ.kinds (target A) ≡ Some K → PlacesBelow Σ below f K → ((d : IsClause Σ W c) → AllFamiliesIn (below f) (items_context (outside_items (origin d))) × Ends (IsInstanceLeaf Σ W (subgoal_pattern c (origin d) A ∷ [])) (SolvesEachHead Σ W below) (output_goal below m (origin d) U A K)) → CoveredOutputs Σ m W (below f) c U A

-- In the empty world a case that the strategy reaches from such a goal, and that unification never solves with the subgoal, is missing.
abbrev pub NeverIsMissingOutput : Type 0
NeverIsMissingOutput = (Σ : Signature) → IsSignature Σ → (below : ℕ → ℕ → Bool) (m : ℕ → List Mark) (k : ℕ) (T : LfType) → Σ.types k ≡ Some T → (U : ℕ → Bool) → HoldsTypes U (scope (constant_clause T)) → (i : ℕ) (A : LfType) → IsSubgoal (constant_clause T) i A → UsesGoal U (input_places (m (target A))) A → HasSoundMarks Σ (target A) (m (target A)) → NoneFree (m (target A)) → (K : Kind) → Σ.kinds (target A) ≡ Some K → (D : Case) → Reached Σ [] (IsOpen Σ) below (subgoal_pattern (constant_clause T) (of_constant T) A ∷ []) (output_goal below m (of_constant T) U A K) D → Never Σ [] (meet_store D (subgoal_pattern (constant_clause T) (of_constant T) A) K) → CoverIs Σ [] below (subgoal_pattern (constant_clause T) (of_constant T) A ∷ []) (output_goal below m (of_constant T) U A K) (missing D)
