-- The goal of a subgoal's outputs as a case with block variables by number. The entry's own block variable has the number 0 and keeps it along a run,
-- wherever it would come to stand among items.
use Rattle.std.specs.Prelude.{◌≡◌, ℕ, zero, List, [], ◌∷◌, Bool, true, Some}
use Rattle.lf.specs.Syntax.{LfType, Kind}
use Rattle.lf.specs.Typing.{Signature, IsSignature}
use Rattle.lf.specs.Subordination.{Block, AreTypedBlocks, IsDeclared}
use Rattle.lf.specs.Variables.{target, onto, binders, everything, Within}
use Rattle.lf_checks.specs.Below.{IsSubordination}
use Rattle.lf_checks.specs.Worlded.{IsSequence}
use Rattle.lf_checks.specs.Clause.{Clause, IsClause, IsSubgoal, outside, scope}
use Rattle.lf_checks.specs.Ground.{UsesGoal}
use Rattle.lf_checks.specs.Marks.{Mark, HasSoundMarks, NoneFree, input_places}
use Rattle.lf_cases.specs.OutputGoal.{output_goal}
use Rattle.lf_cases.specs.Case.{Case}
use Rattle.lf_cases.specs.Cover.{CoveredOutputs}
use Rattle.lf_cases.specs.Pattern.{Origin, of_entry, origin, subgoal_pattern, Pattern, IsCoveredCase}
use Rattle.lf_cases.specs.Raised.{PlacesBelow}
use Rattle.lf_cases.specs.Split.{HasOneBlockVariable, Ends}
use Rattle.lf_coverage.specs.Calls.{CoverIs, IsBeside, covered}
use Rattle.lf_coverage.specs.Heads.{IsTypedCase}
use Rattle.lf_numbered.specs.EntryConstants.{IsFreeFrom}
use Rattle.lf_numbered.specs.EntryPatternsRuns.{HasOneBlock, IsNumberedLeaf, IsNumberedSplit}
use Rattle.lf_numbered.specs.NumberedCase.{NumberedCase}
use Rattle.lf_numbered.specs.NumberedInstance.{block_at}
use Rattle.lf_numbered.specs.Numbering.{numbered}
use Rattle.lf_numbered.specs.OwnTerms.{BlockVariable}
use Rattle.lf_numbered.specs.TypedNumbered.{IsTypedNumberedCase}

-- the goal of the outputs of the subgoal A, where U is ground before it and K is the kind of its family
abbrev pub numbered_output_goal : ℕ → (ℕ → ℕ → Bool) → (ℕ → List Mark) → {c : Clause} → Origin c → (ℕ → Bool) → LfType → Kind → NumberedCase
numbered_output_goal first below m o U A K = numbered first (output_goal below m o U A K)

-- It is typed, for a constant's subgoal and for an entry's, and has one block variable at most.
abbrev pub NumberedOutputGoalIsTyped : Type 0
NumberedOutputGoalIsTyped = (Σ : Signature) → IsSignature Σ → (W : List Block) → AreTypedBlocks Σ W → (first : ℕ) → IsFreeFrom Σ first → (below : ℕ → ℕ → Bool) (m : ℕ → List Mark) (c : Clause) (d : IsClause Σ W c) (U : ℕ → Bool) (i : ℕ) (A : LfType) → IsSubgoal c i A → UsesGoal U (input_places (m (target A))) A → HasSoundMarks Σ (target A) (m (target A)) → NoneFree (m (target A)) → (K : Kind) → Σ.kinds (target A) ≡ Some K → IsTypedNumberedCase Σ first W (numbered_output_goal first below m (origin d) U A K) × HasOneBlock (numbered_output_goal first below m (origin d) U A K)

-- For an entry that of number 0 is its own.
abbrev pub OwnBlockHasNumberZero : Type 0
OwnBlockHasNumberZero = (first : ℕ) (below : ℕ → ℕ → Bool) (m : ℕ → List Mark) (B : Block) (later : List LfType) (E : LfType) (es : List LfType) (e : onto later (E ∷ es) ≡ B.entries) (U : ℕ → Bool) (A : LfType) (K : Kind) → (b : BlockVariable) × (block_at (numbered_output_goal first below m (of_entry B later E es e) U A K).blocks zero ≡ Some b) × (b.block ≡ B)

-- A run by number from it, whose leaves are instances of patterns, as of the subgoal for this block variable, and whose splits hold what they split, covers
-- the goal beside S.
abbrev pub NumberedRunCoversOutputs : Type 0
NumberedRunCoversOutputs = (Σ : Signature) → IsSignature Σ → (W : List Block) → AreTypedBlocks Σ W → (S : ℕ → Bool) (first : ℕ) → IsFreeFrom Σ first → (below : ℕ → ℕ → Bool) (m : ℕ → List Mark) (c : Clause) (d : IsClause Σ W c) (U : ℕ → Bool) (i : ℕ) (A : LfType) → IsSubgoal c i A → UsesGoal U (input_places (m (target A))) A → HasSoundMarks Σ (target A) (m (target A)) → NoneFree (m (target A)) → (K : Kind) → Σ.kinds (target A) ≡ Some K → (ps : List Pattern) → Ends (IsNumberedLeaf Σ first W ps) (IsNumberedSplit Σ first W S) (numbered_output_goal first below m (origin d) U A K) → IsCoveredCase Σ W S ps (output_goal below m (origin d) U A K)

-- So the outputs of any clause's subgoal are covered, an entry's too, where there is such a run for each way in which the clause comes, to instances of the
-- subgoal. Nothing is asked of the families in the types of blocks.
abbrev pub NumberedRunsGiveOutputs : Type 0
NumberedRunsGiveOutputs = (Σ : Signature) → IsSignature Σ → (W : List Block) → AreTypedBlocks Σ W → (first : ℕ) → IsFreeFrom Σ first → (below : ℕ → ℕ → Bool) → IsSubordination Σ W below → (m : ℕ → List Mark) (f : ℕ) → IsDeclared Σ f → (c : Clause) → IsClause Σ W c → below f (target c.type) ≡ true → (U : ℕ → Bool) → Within (outside c.type everything) U → (i : ℕ) (A : LfType) → IsSubgoal c i A → IsSequence Σ W (scope c) (binders [] A) → UsesGoal U (input_places (m (target A))) A → HasSoundMarks Σ (target A) (m (target A)) → NoneFree (m (target A)) → (K : Kind) → Σ.kinds (target A) ≡ Some K → PlacesBelow Σ below f K → ((d : IsClause Σ W c) → Ends (IsNumberedLeaf Σ first W (subgoal_pattern c (origin d) A ∷ [])) (IsNumberedSplit Σ first W (below f)) (numbered_output_goal first below m (origin d) U A K)) → CoveredOutputs Σ m W (below f) c U A

-- And a run by number of any typed goal, beside each set beside which coverage is asked, answers that it is covered.
abbrev pub NumberedRunAnswers : Type 0
NumberedRunAnswers = (Σ : Signature) → IsSignature Σ → (W : List Block) → AreTypedBlocks Σ W → (first : ℕ) → IsFreeFrom Σ first → (below : ℕ → ℕ → Bool) (ps : List Pattern) (C : Case) → HasOneBlockVariable C.items → IsTypedCase Σ W C → ((S : ℕ → Bool) → IsBeside Σ W S C → Ends (IsNumberedLeaf Σ first W ps) (IsNumberedSplit Σ first W S) (numbered first C)) → CoverIs Σ W below ps C covered
