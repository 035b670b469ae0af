-- What is typed beside a pattern stays so along a run by number: so each case of a run from the goal of outputs is, and its equations with the subgoal are a
-- store that is ready for unification.
use Rattle.std.specs.Prelude.{◌≡◌, ℕ, List, Bool, Some}
use Rattle.lf.specs.Syntax.{LfType, Kind}
use Rattle.lf.specs.Typing.{Signature, IsSignature}
use Rattle.lf.specs.Variables.{target, everything, Within}
use Rattle.lf.specs.Subordination.{Block, AreTypedBlocks}
use Rattle.lf_checks.specs.Clause.{Clause, IsClause, IsSubgoal, outside, scope}
use Rattle.lf_checks.specs.Ground.{UsesGoal}
use Rattle.lf_checks.specs.Marks.{Mark, HasSoundMarks, NoneFree, input_places}
use Rattle.lf_cases.specs.Pattern.{Pattern, origin, subgoal_pattern}
use Rattle.lf_coverage.specs.Leaf.{IsTypedPattern}
use Rattle.lf_coverage.specs.Matching.{HoldsTypes}
use Rattle.lf_numbered.specs.EntryConstants.{IsFreeFrom}
use Rattle.lf_numbered.specs.EntryPatternsOutputs.{numbered_output_goal}
use Rattle.lf_numbered.specs.NumberedBesideGiven.{IsTypedBesideByNumber}
use Rattle.lf_numbered.specs.NumberedCase.{NumberedCase}
use Rattle.lf_numbered.specs.OwnStores.{ComesByNumbers}

-- Each case that comes by new block variables and by splits that unification solves from a case that is typed beside a typed pattern is so.
abbrev pub NumberedRunStaysBeside : Type 0
NumberedRunStaysBeside = (Σ : Signature) → IsSignature Σ → (W : List Block) → AreTypedBlocks Σ W → (first : ℕ) → IsFreeFrom Σ first → (below : ℕ → ℕ → Bool) (p : Pattern) → IsTypedPattern Σ p → (C : NumberedCase) → IsTypedBesideByNumber Σ first W C p → (D : NumberedCase) → ComesByNumbers Σ W first below C D → IsTypedBesideByNumber Σ first W D p

-- So it is from the goal of the outputs of any clause's subgoal, beside this.
abbrev pub NumberedOutputRunStaysBeside : Type 0
NumberedOutputRunStaysBeside = (Σ : Signature) → IsSignature Σ → (W : List Block) → AreTypedBlocks Σ W → (first : ℕ) → IsFreeFrom Σ first → (below : ℕ → ℕ → Bool) (m : ℕ → List Mark) (c : Clause) (d : IsClause Σ W c) (U : ℕ → Bool) → Within (outside c.type everything) U → HoldsTypes U (scope c) → (i : ℕ) (A : LfType) → IsSubgoal c i A → UsesGoal U (input_places (m (target A))) A → HasSoundMarks Σ (target A) (m (target A)) → NoneFree (m (target A)) → (K : Kind) → Σ.kinds (target A) ≡ Some K → (D : NumberedCase) → ComesByNumbers Σ W first below (numbered_output_goal first below m (origin d) U A K) D → IsTypedBesideByNumber Σ first W D (subgoal_pattern c (origin d) A)
