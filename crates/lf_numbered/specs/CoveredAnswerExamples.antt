-- Worked: answers of `cover` that give what totality takes on trust, of inputs and of outputs.
use Rattle.std.specs.Prelude.{ℕ, List, [], Bool}
use Rattle.lf.specs.Subordination.{Block, IsBelowTest, Member}
use Rattle.lf_checks.specs.Clause.{IsClause}
use Rattle.lf_checks.specs.Ground.{Subgoals}
use Rattle.lf_cases.specs.Cover.{CoveredInputs, CoveredOutputs}
use Rattle.lf_cases.specs.Pattern.{origin}
use Rattle.lf_totality.specs.Checks.{AreAllBelow}
use Rattle.lf_totality.specs.Examples.{Addition, addition_marks, first_below_second, plus_heads, plus_input_goal}
use Rattle.lf_numbered.specs.CoveredAnswerGives.{OutputGoalIsCovered}
use Rattle.lf_numbered.specs.EntryPatternsExamples.{Laters, asking_clause, ground_before, later_marks, later_worlds}
use Rattle.lf_numbered.specs.NumberedBesideLater.{asked_kind, asked_type}
use Rattle.lf_numbered.specs.NumberedCalls.{NumberedCoverIs, all_covered}
use Rattle.lf_numbered.specs.Numbering.{numbered}

-- With plus + + - the goal plus X Y _ is answered to be covered by plus-z and plus-s. So the inputs of plus are covered
-- beside nat and plus.
abbrev pub PlusAnswerGivesInputs : Type 0
PlusAnswerGivesInputs = NumberedCoverIs Addition 4 [] first_below_second plus_heads (numbered 4 plus_input_goal) all_covered × CoveredInputs Addition addition_marks [] (first_below_second 1) 1

-- The clause of v in some {n:exp} block {v:({D:t n} q n D -> r)} comes in one way, from this entry, and its goal q N D
-- is answered to be covered by the subgoal q n D. So the outputs of this are covered beside the families below r.
abbrev pub EntryAnswerGivesOutputs : Type 0
EntryAnswerGivesOutputs = (below : ℕ → ℕ → Bool) → ((f : ℕ) → IsBelowTest Laters later_worlds (below f) f) → ((d : IsClause Laters later_worlds asking_clause) → OutputGoalIsCovered Laters 4 later_worlds below later_marks (origin d) ground_before asked_type asked_kind) × CoveredOutputs Laters later_marks later_worlds (below 3) asking_clause ground_before asked_type

-- So all that is asked of the coverage of plus's inputs is there, and of the outputs of v's clause.
abbrev pub PlusAnswerPasses : Type 0
PlusAnswerPasses = (V : List Block) → (S : ℕ → Bool) × AreAllBelow Addition V S 1 × CoveredInputs Addition addition_marks [] S 1

abbrev pub EntryAnswerPasses : Type 0
EntryAnswerPasses = (V : List Block) → ((B : Block) → Member B later_worlds → Member B V) → (below : ℕ → ℕ → Bool) → ((f : ℕ) → IsBelowTest Laters later_worlds (below f) f) → Subgoals later_marks asking_clause (λ U A. (S : ℕ → Bool) × AreAllBelow Laters V S 3 × CoveredOutputs Laters later_marks later_worlds S asking_clause U A) (λ U. Unit {0})
