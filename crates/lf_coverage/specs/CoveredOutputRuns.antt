-- Runs at candidates from the goal of the outputs of a constant's subgoal: what totality asks of the subgoal follows.
use Rattle.std.specs.Prelude.{◌≡◌, ℕ, List, [], ◌∷◌, Bool, true, Some}
use Rattle.lf.specs.Syntax.{LfType, Kind}
use Rattle.lf.specs.Typing.{Signature, IsSignature}
use Rattle.lf.specs.Variables.{target, binders, everything, Within}
use Rattle.lf.specs.Subordination.{Block, AreTypedBlocks, IsBelowTest, IsDeclared, SelfContained}
use Rattle.lf_checks.specs.Clause.{IsSubgoal, constant_clause, outside, scope}
use Rattle.lf_checks.specs.Ground.{UsesGoal}
use Rattle.lf_checks.specs.Marks.{Mark, HasSoundMarks, NoneFree, input_places}
use Rattle.lf_checks.specs.Worlded.{IsSequence}
use Rattle.lf_cases.specs.Cover.{CoveredOutputs}
use Rattle.lf_cases.specs.OutputGoal.{output_goal}
use Rattle.lf_cases.specs.Pattern.{of_constant, subgoal_pattern}
use Rattle.lf_cases.specs.Raised.{PlacesBelow}
use Rattle.lf_cases.specs.Split.{Ends}
use Rattle.lf_coverage.specs.Calls.{IsBeside}
use Rattle.lf_coverage.specs.CandidateRuns.{RefutesCandidate}
use Rattle.lf_coverage.specs.Leaf.{IsInstanceLeaf}
use Rattle.lf_coverage.specs.RefutingNumbers.{FindsCandidate}

-- The goal of a constant's outputs is to be covered beside each self-contained set that holds the family of the clause, as the set of those below that
-- family does. The goal of plus-s's subgoal is beside {nat, plus}. It is beside {nat} too, which the family isn't in.
abbrev pub OutputGoalIsBeside : Type 0
OutputGoalIsBeside = (Σ : Signature) (W : List Block) (below : ℕ → ℕ → Bool) (m : ℕ → List Mark) (k : ℕ) (T : LfType) → Σ.types k ≡ Some T → (U : ℕ → Bool) (i : ℕ) (A : LfType) → IsSubgoal (constant_clause T) i A → (K : Kind) → Σ.kinds (target A) ≡ Some K → (S : ℕ → Bool) → SelfContained Σ W S → S (target T) ≡ true → IsBeside Σ W S (output_goal below m (of_constant T) U A K)

-- The families of the subgoal's places are below each family that the clause's is below: so `PlacesBelow` need not be asked for, by a test of subordination.
abbrev pub OutputPlacesAreBelow : Type 0
OutputPlacesAreBelow = (Σ : Signature) → IsSignature Σ → (W : List Block) → AreTypedBlocks Σ W → (below : ℕ → ℕ → Bool) → ((f : ℕ) → IsBelowTest Σ W (below f) f) → (f : ℕ) → IsDeclared Σ f → (k : ℕ) (T : LfType) → Σ.types k ≡ Some T → below f (target T) ≡ true → (i : ℕ) (A : LfType) → IsSubgoal (constant_clause T) i A → (K : Kind) → Σ.kinds (target A) ≡ Some K → PlacesBelow Σ below f K

-- So the outputs of a constant's subgoal are covered where a run at candidates from their goal ends at instances of the subgoal. Where what is ground
-- doesn't hold the variables in the types of its variables, there are no outputs to be covered, and the run isn't used.
abbrev pub CandidateRunGivesOutputs : Type 0
CandidateRunGivesOutputs = (Σ : Signature) → IsSignature Σ → (W : List Block) → AreTypedBlocks Σ W → (below : ℕ → ℕ → Bool) → ((f : ℕ) → IsBelowTest Σ W (below f) f) → (m : ℕ → List Mark) (f : ℕ) → IsDeclared Σ f → (k : ℕ) (T : LfType) → Σ.types k ≡ Some T → below f (target T) ≡ true → (U : ℕ → Bool) → Within (outside T everything) U → (i : ℕ) (A : LfType) → IsSubgoal (constant_clause T) i A → IsSequence Σ W (scope (constant_clause T)) (binders [] A) → UsesGoal U (input_places (m (target A))) A → HasSoundMarks Σ (target A) (m (target A)) → NoneFree (m (target A)) → (K : Kind) → Σ.kinds (target A) ≡ Some K → Ends (IsInstanceLeaf Σ W (subgoal_pattern (constant_clause T) (of_constant T) A ∷ [])) (RefutesCandidate Σ W below (subgoal_pattern (constant_clause T) (of_constant T) A ∷ [])) (output_goal below m (of_constant T) U A K) → CoveredOutputs Σ m W (below f) (constant_clause T) U A

-- Totality asks it beside the families below the clause's own.
abbrev pub CandidateRunGivesOwnOutputs : Type 0
CandidateRunGivesOwnOutputs = (Σ : Signature) → IsSignature Σ → (W : List Block) → AreTypedBlocks Σ W → (below : ℕ → ℕ → Bool) → ((f : ℕ) → IsBelowTest Σ W (below f) f) → (m : ℕ → List Mark) (k : ℕ) (T : LfType) → Σ.types k ≡ Some T → (U : ℕ → Bool) → Within (outside T everything) U → (i : ℕ) (A : LfType) → IsSubgoal (constant_clause T) i A → IsSequence Σ W (scope (constant_clause T)) (binders [] A) → UsesGoal U (input_places (m (target A))) A → HasSoundMarks Σ (target A) (m (target A)) → NoneFree (m (target A)) → (K : Kind) → Σ.kinds (target A) ≡ Some K → Ends (IsInstanceLeaf Σ W (subgoal_pattern (constant_clause T) (of_constant T) A ∷ [])) (RefutesCandidate Σ W below (subgoal_pattern (constant_clause T) (of_constant T) A ∷ [])) (output_goal below m (of_constant T) U A K) → CoveredOutputs Σ m W (below (target T)) (constant_clause T) U A

-- And so it is where solving answers along the run for the stores of heads, each in numbers of its own.
abbrev pub FoundRunGivesOutputs : Type 0
FoundRunGivesOutputs = (Σ : Signature) → IsSignature Σ → (W : List Block) → AreTypedBlocks Σ W → (below : ℕ → ℕ → Bool) → ((f : ℕ) → IsBelowTest Σ W (below f) f) → (m : ℕ → List Mark) (f : ℕ) → IsDeclared Σ f → (k : ℕ) (T : LfType) → Σ.types k ≡ Some T → below f (target T) ≡ true → (U : ℕ → Bool) → Within (outside T everything) U → (i : ℕ) (A : LfType) → IsSubgoal (constant_clause T) i A → IsSequence Σ W (scope (constant_clause T)) (binders [] A) → UsesGoal U (input_places (m (target A))) A → HasSoundMarks Σ (target A) (m (target A)) → NoneFree (m (target A)) → (K : Kind) → Σ.kinds (target A) ≡ Some K → Ends (IsInstanceLeaf Σ W (subgoal_pattern (constant_clause T) (of_constant T) A ∷ [])) (FindsCandidate Σ W below (subgoal_pattern (constant_clause T) (of_constant T) A ∷ [])) (output_goal below m (of_constant T) U A K) → CoveredOutputs Σ m W (below f) (constant_clause T) U A
