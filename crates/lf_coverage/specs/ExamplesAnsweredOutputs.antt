-- Worked runs from goals of outputs.
use Rattle.std.specs.Prelude.{◌≡◌, ℕ, List, [], ◌∷◌, Bool, true}
use Rattle.lf.specs.Subordination.{SelfContained}
use Rattle.lf_checks.specs.Ground.{ground_first}
use Rattle.lf_cases.specs.Case.{Case, items_context}
use Rattle.lf_cases.specs.Missing.{IsInstanceOfGoal}
use Rattle.lf_cases.specs.OutputGoal.{output_goal}
use Rattle.lf_cases.specs.Pattern.{Pattern, IsCoveredCase, of_constant, subgoal_pattern}
use Rattle.lf_cases.specs.Split.{Ends}
use Rattle.lf_totality.specs.Examples.{Addition, Copying, addition_marks, copying_marks, copy_block, copy_subgoal, cp_kind, cp_lam, first_below_second, on_three, plus_kind, plus_s, var}
use Rattle.lf_coverage.specs.Leaf.{IsInstanceLeaf}
use Rattle.lf_coverage.specs.Subordinate.{AllQuantifiersAreBelow}
use Rattle.lf_coverage.specs.SubordinateRuns.{ComesBy}
use Rattle.lf_coverage.specs.TypedCase.{IsTypedBeside}
use Rattle.lf_coverage.specs.UnifiedSplit.{AnswersEachHead}

-- the goal plus X Y Z of the outputs of plus-s's subgoal plus X Y _, and that subgoal
abbrev pub plus_output_goal : Case
plus_output_goal = output_goal first_below_second addition_marks (of_constant plus_s.type) (ground_first addition_marks plus_s) (on_three 1 (var 3) (var 2) (var 1)) plus_kind

abbrev pub plus_output_patterns : List Pattern
plus_output_patterns = subgoal_pattern plus_s (of_constant plus_s.type) (on_three 1 (var 3) (var 2) (var 1)) ∷ []

-- Its items quantify over nothing. Its run ends at once, and covers it beside each self-contained set that holds plus.
abbrev pub PlusOutputRunCovers : Type 0
PlusOutputRunCovers = AllQuantifiersAreBelow first_below_second (items_context plus_output_goal.items) × Ends (IsInstanceLeaf Addition [] plus_output_patterns) (AnswersEachHead Addition [] first_below_second) plus_output_goal × ((S : ℕ → Bool) → SelfContained Addition [] S → S 1 ≡ true → IsCoveredCase Addition [] S plus_output_patterns plus_output_goal)

-- the goal cp (E x) (F x) under {x:exp} {u:cp x x} of copying under a binder
abbrev pub copy_output_goal : Case
copy_output_goal = output_goal first_below_second copying_marks (of_constant cp_lam.type) (ground_first copying_marks cp_lam) copy_subgoal cp_kind

-- Each case that comes from it by splits on which unification answers is a typed instance of it, and typed beside the subgoal.
abbrev pub CopyOutputRunStaysTyped : Type 0
CopyOutputRunStaysTyped = (D : Case) → ComesBy (AnswersEachHead Copying (copy_block ∷ []) first_below_second) copy_output_goal D → IsInstanceOfGoal Copying (copy_block ∷ []) copy_output_goal D × IsTypedBeside Copying (copy_block ∷ []) D (subgoal_pattern cp_lam (of_constant cp_lam.type) copy_subgoal)
