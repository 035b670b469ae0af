-- The laws of total families that the functions of this crate carry.
use Rattle.std.specs.Prelude.{◌≡◌, ℕ, List, [], ◌∷◌, Bool, true, Some}
use Rattle.lf.specs.Syntax.{Spine, LfType, Kind}
use Rattle.lf.specs.Substitution.{Image, substitute_type, reduce}
use Rattle.lf.specs.Typing.{Signature, TypeAt, SpineFitsKind, IsType, IsKind, IsContext, IsSignature}
use Rattle.lf.specs.Variables.{target, target_arguments, binders, onto, UsesType, Values, Within, everything}
use Rattle.lf.specs.Subordination.{Block, Member, AreTypedBlocks}
use Rattle.lf.specs.Worlds.{World}
use Rattle.lf.specs.Extension.{Extends}
use Rattle.lf_checks.specs.Clause.{Clause, scope, outside, IsSubgoal, IsClause, constant_clause}
use Rattle.lf_checks.specs.Marks.{Mark, AllInputs, input_places, output_places, NoneFree, SamePlaces, UsesPlaces}
use Rattle.lf_checks.specs.Ground.{ground_first, ground_after, UsesGoal}
use Rattle.lf_checks.specs.Worlded.{IsSequence}
use Rattle.lf_checks.specs.Order.{Order}
use Rattle.lf_cases.specs.Cover.{AgreesOutside, AreTerms, CoveredOutputs, OutputsCovered}
use Rattle.lf_cases.specs.Case.{Case, covered_places}
use Rattle.lf_cases.specs.Pattern.{Origin, of_constant, origin, Known, subgoal_pattern, TellsOutside, IsGivenFor, Holds, IsCoveredCase}
use Rattle.lf_cases.specs.OutputGoal.{output_goal}
use Rattle.lf_cases.specs.Raised.{PlacesBelow, LowPlaces, CoveredLowOutputs}
use Rattle.lf_totality.specs.Total.{HasTotalMarks, Total, Lasting}
use Rattle.lf_checks.specs.Below.{IsSubordination}
use Rattle.lf_totality.specs.Group.{Checked, IsRight, GroupChecked, GroupCheckedBySizes}
use Rattle.lf_totality.specs.Facts.{Facts, FactsHold, GroupCheckedWith}

-- the record of a checked group is right: each of its families lasts
abbrev pub CheckedGroupIsRight : Type 0
CheckedGroupIsRight = (Σ : Signature) → IsSignature Σ → (R : Checked) (order : ℕ → Order) (totals : List Checked) → GroupChecked Σ R order totals → ((Q : Checked) → Member Q totals → IsRight Σ Q) → IsRight Σ R

-- The same where sizes drop: the totality theorem rests on the orders by this alone.
abbrev pub GroupBySizesIsRight : Type 0
GroupBySizesIsRight = (Σ : Signature) → IsSignature Σ → (R : Checked) (order : ℕ → Order) (totals : List Checked) → GroupCheckedBySizes Σ R order totals → ((Q : Checked) → Member Q totals → IsRight Σ Q) → IsRight Σ R

-- The same with facts about sizes that hold where a call is made, after the subgoals before it are solved.
abbrev pub GroupWithFactsIsRight : Type 0
GroupWithFactsIsRight = (Σ : Signature) → IsSignature Σ → (facts : Facts) (equal : ℕ → ℕ → Bool) (R : Checked) (order : ℕ → Order) (totals : List Checked) → FactsHold facts Σ R → GroupCheckedWith facts equal Σ R order totals → ((Q : Checked) → Member Q totals → IsRight Σ Q) → IsRight Σ R

-- what lasts is total now
abbrev pub LastingIsTotal : Type 0
LastingIsTotal = (Σ : Signature) → IsSignature Σ → (f : ℕ) (m : List Mark) (W : List Block) (S : ℕ → Bool) → Lasting Σ f m W S → Total Σ f m W

-- what lasts goes on through each legal extension
abbrev pub LastingGoesOn : Type 0
LastingGoesOn = (Σ Σ' : Signature) (f : ℕ) (m : List Mark) (W : List Block) (S : ℕ → Bool) → Extends S Σ Σ' → Lasting Σ f m W S → Lasting Σ' f m W S

-- it lasts over each greater set of families
abbrev pub LastingOverMore : Type 0
LastingOverMore = (Σ : Signature) (f : ℕ) (m : List Mark) (W : List Block) (S T : ℕ → Bool) → Within S T → Lasting Σ f m W S → Lasting Σ f m W T

-- a record stays right in each extension that adds nothing to its frozen families
abbrev pub RecordStaysRight : Type 0
RecordStaysRight = (Σ Σ' : Signature) (R : Checked) → Extends R.frozen Σ Σ' → IsRight Σ R → IsRight Σ' R

-- a checked record stays checked in such an extension
abbrev pub CheckedStaysChecked : Type 0
CheckedStaysChecked = (Σ Σ' : Signature) (R : Checked) (order : ℕ → Order) (totals : List Checked) → Extends R.frozen Σ Σ' → GroupChecked Σ R order totals → GroupChecked Σ' R order totals

-- the local context of a well-worlded subgoal, under values of what is ground before it, extends a context of worlds to one
abbrev pub SubgoalContextIsWorld : Type 0
SubgoalContextIsWorld = (Σ : Signature) → IsSignature Σ → (W : List Block) → AreTypedBlocks Σ W → (m : List Bool) (S : ℕ → Bool) (c : Clause) (U : ℕ → Bool) (A : LfType) → IsContext Σ (scope c) → IsSequence Σ W (scope c) (binders [] A) → UsesGoal U m A → (Σ' : Signature) → Extends S Σ Σ' → (G : List LfType) → World Σ' W S G → (σ : ℕ → Image) → Values Σ' U (scope c) G σ → World Σ' W S (binders G (substitute_type reduce σ A))

-- the type of a variable that is ground at first mentions only such variables, where the head's input places do
abbrev pub GroundFirstIsClosed : Type 0
GroundFirstIsClosed = (Σ : Signature) → IsSignature Σ → (m : ℕ → List Mark) (c : Clause) → IsContext Σ c.outer → IsType Σ c.outer c.type → HasTotalMarks Σ (target c.type) (m (target c.type)) → UsesPlaces (ground_first m c) (input_places (m (target c.type))) (target_arguments c.type) → (i : ℕ) (A : LfType) → TypeAt (scope c) i A → ground_first m c i ≡ true → UsesType (ground_first m c) A

-- the same after a subgoal, where the subgoal mentions only variables that are ground then
abbrev pub GroundAfterIsClosed : Type 0
GroundAfterIsClosed = (Σ : Signature) → IsSignature Σ → (m : ℕ → List Mark) (c : Clause) (U : ℕ → Bool) (A : LfType) → IsContext Σ (scope c) → IsType Σ (scope c) A → Within (outside c.type everything) U → ((i : ℕ) (X : LfType) → TypeAt (scope c) i X → U i ≡ true → UsesType U X) → UsesType (ground_after m c A U) A → (i : ℕ) (X : LfType) → TypeAt (scope c) i X → ground_after m c A U i ≡ true → UsesType (ground_after m c A U) X

-- a subgoal without outputs is covered
abbrev pub NoOutputsAreCovered : Type 0
NoOutputsAreCovered = (Σ : Signature) (m : ℕ → List Mark) (W : List Block) (S : ℕ → Bool) (c : Clause) (U : ℕ → Bool) (A : LfType) → AllInputs (m (target A)) → UsesGoal U (input_places (m (target A))) A → CoveredOutputs Σ m W S c U A

-- in a context of worlds each argument of a typed tuple uses only local variables whose families are below its own
abbrev pub TypedTuplesAreLow : Type 0
TypedTuplesAreLow = (Σ : Signature) → IsSignature Σ → (W : List Block) (below : ℕ → ℕ → Bool) → IsSubordination Σ W below → (f : ℕ) (Σ' : Signature) → Extends (below f) Σ Σ' → (G D : List LfType) → World Σ' W (below f) (onto D G) → (m : List Bool) (S : Spine) (K : Kind) → PlacesBelow Σ below f K → IsKind Σ' (onto D G) K → SpineFitsKind Σ' (onto D G) S K → LowPlaces below D m S K

-- so the outputs of a subgoal are covered where such tuples are
abbrev pub LowOutputsCover : Type 0
LowOutputsCover = (Σ : Signature) → IsSignature Σ → (W : List Block) (below : ℕ → ℕ → Bool) → IsSubordination Σ W below → (m : ℕ → List Mark) (f : ℕ) → AreTypedBlocks Σ W → (c : Clause) (U : ℕ → Bool) (i : ℕ) (A : LfType) → IsContext Σ (scope c) → IsSubgoal c i A → IsSequence Σ W (scope c) (binders [] A) → UsesGoal U (input_places (m (target A))) A → ((K : Kind) → Σ.kinds (target A) ≡ Some K → PlacesBelow Σ below f K) → CoveredLowOutputs Σ below m W (below f) c U A → CoveredOutputs Σ m W (below f) c U A

-- Output goals as cases. What a covered case of a subgoal's outputs holds is covered, where what is known tells what stands outside, and this
-- is ground.
abbrev pub HeldOutputsAreCovered : Type 0
HeldOutputsAreCovered = (Σ : Signature) → IsSignature Σ → (W : List Block) (m : ℕ → List Mark) (S : ℕ → Bool) (c : Clause) (o : Origin c) (U : ℕ → Bool) (i : ℕ) (A : LfType) → Within (outside c.type everything) U → IsContext Σ (scope c) → IsSubgoal c i A → NoneFree (m (target A)) → UsesGoal U (input_places (m (target A))) A → (C : Case) → IsGivenFor c U C.given → IsCoveredCase Σ W S (subgoal_pattern c o A ∷ []) C → (Σ' : Signature) → Extends S Σ Σ' → (G : List LfType) (w : World Σ' W S G) (F : Known) (θ σ : ℕ → Image) → TellsOutside o F θ → Values Σ' U (scope c) G σ → AgreesOutside c σ θ → AreTerms c U σ → (T : Spine) → covered_places C.arguments ≡ output_places (m (target A)) → SamePlaces (input_places (m (target A))) (target_arguments (substitute_type reduce σ A)) T → Holds w C F σ T → OutputsCovered Σ' m c U A G σ T

-- the goal of a constant's subgoal holds all its outputs: where the goal is covered, the outputs are
abbrev pub OutputGoalCovers : Type 0
OutputGoalCovers = (Σ : Signature) → IsSignature Σ → (W : List Block) → AreTypedBlocks Σ W → (below : ℕ → ℕ → Bool) → IsSubordination Σ W below → (m : ℕ → List Mark) (f k : ℕ) (V : LfType) → Σ.types k ≡ Some V → (U : ℕ → Bool) → Within (outside V everything) U → (i : ℕ) (A : LfType) → IsSubgoal (constant_clause V) i A → IsSequence Σ W (scope (constant_clause V)) (binders [] A) → NoneFree (m (target A)) → UsesGoal U (input_places (m (target A))) A → (K : Kind) → Σ.kinds (target A) ≡ Some K → PlacesBelow Σ below f K → IsCoveredCase Σ W (below f) (subgoal_pattern (constant_clause V) (of_constant V) A ∷ []) (output_goal below m (of_constant V) U A K) → CoveredOutputs Σ m W (below f) (constant_clause V) U A

-- The same of any clause, a block entry too. A clause may come in more than one way: from a constant and an entry of one type, or from
-- entries of two blocks. It has a goal for each, and all are to be covered: where nothing else is covered than the goal of one entry,
-- nothing is said of a context without an instance of its block, in which the other way may offer the clause.
abbrev pub ClauseGoalsCover : Type 0
ClauseGoalsCover = (Σ : Signature) → IsSignature Σ → (W : List Block) → AreTypedBlocks Σ W → (below : ℕ → ℕ → Bool) → IsSubordination Σ W below → (m : ℕ → List Mark) (f : ℕ) (c : Clause) → IsClause Σ W c → below f (target c.type) ≡ true → (U : ℕ → Bool) → Within (outside c.type everything) U → (i : ℕ) (A : LfType) → IsSubgoal c i A → IsSequence Σ W (scope c) (binders [] A) → NoneFree (m (target A)) → UsesGoal U (input_places (m (target A))) A → (K : Kind) → Σ.kinds (target A) ≡ Some K → PlacesBelow Σ below f K → ((d : IsClause Σ W c) → IsCoveredCase Σ W (below f) (subgoal_pattern c (origin d) A ∷ []) (output_goal below m (origin d) U A K)) → CoveredOutputs Σ m W (below f) c U A
