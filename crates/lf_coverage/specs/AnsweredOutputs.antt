-- Runs from the goal of the outputs of a constant's subgoal by splits on which unification answers. Nothing is asked of the families in types along them.
use Rattle.std.specs.Prelude.{◌≡◌, ◌<◌, ℕ, suc, List, [], ◌∷◌, Bool, true, Some}
use Rattle.lf.specs.Syntax.{LfType, Kind}
use Rattle.lf.specs.Typing.{Signature, TypeAt, IsSignature}
use Rattle.lf.specs.Variables.{target, target_arguments, binders, everything, UsesType, Within}
use Rattle.lf.specs.Subordination.{Block, AreTypedBlocks, IsBelowTest, IsDeclared, SelfContained}
use Rattle.lf_checks.specs.Clause.{IsSubgoal, constant_clause, outside, scope}
use Rattle.lf_checks.specs.Ground.{UsesGoal, ground_first}
use Rattle.lf_checks.specs.GroundUntil.{ground_until}
use Rattle.lf_checks.specs.Marks.{Mark, HasSoundMarks, NoneFree, UsesPlaces, input_places}
use Rattle.lf_checks.specs.Modes.{WellModed}
use Rattle.lf_checks.specs.Worlded.{IsSequence}
use Rattle.lf_cases.specs.Case.{Case, items_context}
use Rattle.lf_cases.specs.Cover.{CoveredOutputs}
use Rattle.lf_cases.specs.Missing.{IsInstanceOfGoal}
use Rattle.lf_cases.specs.OutputGoal.{output_goal}
use Rattle.lf_cases.specs.Pattern.{Pattern, IsCoveredCase, of_constant, subgoal_pattern}
use Rattle.lf_cases.specs.Raised.{PlacesBelow}
use Rattle.lf_cases.specs.Split.{Ends}
use Rattle.lf_coverage.specs.Heads.{IsTypedCase}
use Rattle.lf_coverage.specs.Leaf.{IsInstanceLeaf}
use Rattle.lf_coverage.specs.Subordinate.{AllQuantifiersAreBelow}
use Rattle.lf_coverage.specs.SubordinateRuns.{ComesBy}
use Rattle.lf_coverage.specs.TypedCase.{IsTypedBeside}
use Rattle.lf_coverage.specs.UnifiedSplit.{AnswersEachHead, SolvesEachHead}

-- A run by splits on which unification answers, from a typed goal whose items quantify only over what is below, is one by solved splits.
abbrev pub AnsweredRunIsSolved : Type 0
AnsweredRunIsSolved = (Σ : Signature) → IsSignature Σ → (W : List Block) → AreTypedBlocks Σ W → (below : ℕ → ℕ → Bool) → ((f : ℕ) → IsBelowTest Σ W (below f) f) → (ps : List Pattern) (goal : Case) → IsTypedCase Σ W goal → AllQuantifiersAreBelow below (items_context goal.items) → Ends (IsInstanceLeaf Σ W ps) (AnswersEachHead Σ W below) goal → Ends (IsInstanceLeaf Σ W ps) (SolvesEachHead Σ W below) goal

-- The items of the goal of a constant's subgoal's outputs quantify only over what is below. That they are typed comes of the checks of modes.
abbrev pub OutputGoalQuantifiesBelow : Type 0
OutputGoalQuantifiesBelow = (Σ : Signature) → IsSignature Σ → (W : List Block) → AreTypedBlocks Σ W → (below : ℕ → ℕ → Bool) → ((f : ℕ) → IsBelowTest Σ W (below f) f) → (m : ℕ → List Mark) (k : ℕ) (T : LfType) → Σ.types k ≡ Some T → (U : ℕ → Bool) (i : ℕ) (A : LfType) → IsSubgoal (constant_clause T) i A → UsesGoal U (input_places (m (target A))) A → HasSoundMarks Σ (target A) (m (target A)) → NoneFree (m (target A)) → (K : Kind) → Σ.kinds (target A) ≡ Some K → AllQuantifiersAreBelow below (items_context (output_goal below m (of_constant T) U A K).items)

-- A run of such splits from the goal of outputs to instances of patterns covers it beside each self-contained set that holds the family of the clause.
abbrev pub AnsweredRunCoversOutputs : Type 0
AnsweredRunCoversOutputs = (Σ : Signature) → IsSignature Σ → (W : List Block) → AreTypedBlocks Σ W → (below : ℕ → ℕ → Bool) → ((f : ℕ) → IsBelowTest Σ W (below f) f) → (m : ℕ → List Mark) (k : ℕ) (T : LfType) → Σ.types k ≡ Some T → (U : ℕ → Bool) (i : ℕ) (A : LfType) → IsSubgoal (constant_clause T) i A → UsesGoal U (input_places (m (target A))) A → HasSoundMarks Σ (target A) (m (target A)) → NoneFree (m (target A)) → (K : Kind) → Σ.kinds (target A) ≡ Some K → (ps : List Pattern) → Ends (IsInstanceLeaf Σ W ps) (AnswersEachHead Σ W below) (output_goal below m (of_constant T) U A K) → (S : ℕ → Bool) → SelfContained Σ W S → S (target T) ≡ true → IsCoveredCase Σ W S ps (output_goal below m (of_constant T) U A K)

-- So the outputs are covered where such a run from their goal ends at instances of the subgoal.
abbrev pub AnsweredRunGivesOutputs : Type 0
AnsweredRunGivesOutputs = (Σ : Signature) → IsSignature Σ → (W : List Block) → AreTypedBlocks Σ W → (below : ℕ → ℕ → Bool) → ((f : ℕ) → IsBelowTest Σ W (below f) f) → (m : ℕ → List Mark) (f : ℕ) → IsDeclared Σ f → (k : ℕ) (T : LfType) → Σ.types k ≡ Some T → below f (target T) ≡ true → (U : ℕ → Bool) → Within (outside T everything) U → (i : ℕ) (A : LfType) → IsSubgoal (constant_clause T) i A → IsSequence Σ W (scope (constant_clause T)) (binders [] A) → UsesGoal U (input_places (m (target A))) A → HasSoundMarks Σ (target A) (m (target A)) → NoneFree (m (target A)) → (K : Kind) → Σ.kinds (target A) ≡ Some K → PlacesBelow Σ below f K → Ends (IsInstanceLeaf Σ W (subgoal_pattern (constant_clause T) (of_constant T) A ∷ [])) (AnswersEachHead Σ W below) (output_goal below m (of_constant T) U A K) → CoveredOutputs Σ m W (below f) (constant_clause T) U A

-- Each case that comes so from the goal of outputs is a typed instance of it, and typed beside the subgoal, where what is ground holds the variables in
-- the types of its variables.
abbrev pub OutputRunStaysTyped : Type 0
OutputRunStaysTyped = (Σ : Signature) → IsSignature Σ → (W : List Block) → AreTypedBlocks Σ W → (below : ℕ → ℕ → Bool) (m : ℕ → List Mark) (k : ℕ) (T : LfType) → Σ.types k ≡ Some T → (U : ℕ → Bool) → ((j : ℕ) (X : LfType) → TypeAt (scope (constant_clause T)) j X → U j ≡ true → UsesType U X) → (i : ℕ) (A : LfType) → IsSubgoal (constant_clause T) i A → UsesGoal U (input_places (m (target A))) A → HasSoundMarks Σ (target A) (m (target A)) → NoneFree (m (target A)) → (K : Kind) → Σ.kinds (target A) ≡ Some K → (D : Case) → ComesBy (AnswersEachHead Σ W below) (output_goal below m (of_constant T) U A K) D → IsInstanceOfGoal Σ W (output_goal below m (of_constant T) U A K) D × IsTypedBeside Σ W D (subgoal_pattern (constant_clause T) (of_constant T) A)

-- So it is in a well-moded clause, where the head's inputs mention only what they make ground, and each earlier subgoal only what is ground after it.
abbrev pub StrictRunStaysTyped : Type 0
StrictRunStaysTyped = (Σ : Signature) → IsSignature Σ → (W : List Block) → AreTypedBlocks Σ W → (below : ℕ → ℕ → Bool) (m : ℕ → List Mark) (moded : ℕ → Bool) (k : ℕ) (T : LfType) → Σ.types k ≡ Some T → WellModed Σ m moded (constant_clause T) → NoneFree (m (target T)) → UsesPlaces (ground_first m (constant_clause T)) (input_places (m (target T))) (target_arguments T) → (i : ℕ) (A : LfType) → IsSubgoal (constant_clause T) i A → ((j : ℕ) (B : LfType) → j < i → IsSubgoal (constant_clause T) j B → UsesType (ground_until everything m (constant_clause T) (suc j)) B) → NoneFree (m (target A)) → (K : Kind) → Σ.kinds (target A) ≡ Some K → (D : Case) → ComesBy (AnswersEachHead Σ W below) (output_goal below m (of_constant T) (ground_until everything m (constant_clause T) i) A K) D → IsInstanceOfGoal Σ W (output_goal below m (of_constant T) (ground_until everything m (constant_clause T) i) A K) D × IsTypedBeside Σ W D (subgoal_pattern (constant_clause T) (of_constant T) A)
