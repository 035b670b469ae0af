-- What `conclude` asks of coverage follows from the answers of `cover`. Its other checks found that the marks are
-- sound, and that the clauses are well-moded and well-worlded; so what the goals need is there. The sets are those
-- below the family by the worlds W, and what is below it by these is so by more blocks.
use Rattle.std.specs.Prelude.{◌≡◌, ℕ, List, Bool, Some}
use Rattle.lf.specs.Syntax.{LfType, Kind}
use Rattle.lf.specs.Typing.{Signature}
use Rattle.lf.specs.Variables.{everything, target}
use Rattle.lf.specs.Subordination.{Block, IsBelowTest, Member}
use Rattle.lf_checks.specs.Clause.{Clause, IsClause, IsSubgoal, scope}
use Rattle.lf_checks.specs.Ground.{Subgoals}
use Rattle.lf_checks.specs.GroundUntil.{ground_until}
use Rattle.lf_checks.specs.Marks.{Mark, NoneFree, input_places}
use Rattle.lf_checks.specs.Modes.{WellModed}
use Rattle.lf_checks.specs.Worlded.{WellWorlded}
use Rattle.lf_cases.specs.Cover.{CoveredInputs, CoveredOutputs}
use Rattle.lf_cases.specs.Pattern.{AreHeadsOf, Pattern, origin}
use Rattle.lf_totality.specs.Checks.{AreAllBelow}
use Rattle.lf_totality.specs.Total.{HasTotalMarks}
use Rattle.lf_numbered.specs.CoveredAnswerGives.{OutputGoalIsCovered}
use Rattle.lf_coverage.specs.Matching.{HoldsTypes}
use Rattle.lf_numbered.specs.NumberedCalls.{IsSetting, NumberedCoverIs, NumberedInputGoalIs, all_covered}
use Rattle.lf_numbered.specs.NumberedCase.{NumberedCase}

-- The goal of the inputs of a family is answered to be covered by these heads.
abbrev pub InputGoalIsCovered : Signature → ℕ → List Block → (ℕ → ℕ → Bool) → (ℕ → List Mark) → ℕ → List Pattern → Kind → Type 0
InputGoalIsCovered Σ first W below m a ps K = (C : NumberedCase) × NumberedInputGoalIs first a (input_places (m a)) K C × NumberedCoverIs Σ first W below ps C all_covered

-- Of a family with sound marks, inputs and outputs alone, the answer for its goal and heads of its clauses is all that
-- is asked of its inputs. So it is of plus + + - with plus-z and plus-s; not of plus + * -, where a place is free.
abbrev pub CoveredAnswerPassesInputs : Type 0
CoveredAnswerPassesInputs = (Σ : Signature) (first : ℕ) (W : List Block) → IsSetting Σ first W → (V : List Block) → ((B : Block) → Member B W → Member B V) → (below : ℕ → ℕ → Bool) → ((f : ℕ) → IsBelowTest Σ W (below f) f) → (m : ℕ → List Mark) (a : ℕ) → HasTotalMarks Σ a (m a) → (ps : List Pattern) → AreHeadsOf Σ W a ps → ((K : Kind) → Σ.kinds a ≡ Some K → InputGoalIsCovered Σ first W below m a ps K) → (S : ℕ → Bool) × AreAllBelow Σ V S a × CoveredInputs Σ m W S a

-- Of a well-moded and well-worlded clause, whose subgoals' families have no place that is marked free, the answers for
-- the goals of its subgoals, each with what is ground before it, are all that is asked of its outputs. No answer is
-- needed of a subgoal before which a variable is ground and not those in its type.
abbrev pub CoveredAnswersPassOutputs : Type 0
CoveredAnswersPassOutputs = (Σ : Signature) (first : ℕ) (W : List Block) → IsSetting Σ first W → (V : List Block) → ((B : Block) → Member B W → Member B V) → (below : ℕ → ℕ → Bool) → ((f : ℕ) → IsBelowTest Σ W (below f) f) → (m : ℕ → List Mark) (moded : ℕ → Bool) (c : Clause) → IsClause Σ W c → WellModed Σ m moded c → WellWorlded Σ W c → ((i : ℕ) (A : LfType) → IsSubgoal c i A → NoneFree (m (target A))) → ((i : ℕ) (A : LfType) → IsSubgoal c i A → (K : Kind) → Σ.kinds (target A) ≡ Some K → HoldsTypes (ground_until everything m c i) (scope c) → (d : IsClause Σ W c) → OutputGoalIsCovered Σ first W below m (origin d) (ground_until everything m c i) A K) → Subgoals m c (λ U A. (S : ℕ → Bool) × AreAllBelow Σ V S (target c.type) × CoveredOutputs Σ m W S c U A) (λ U. Unit {0})
