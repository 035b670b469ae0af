-- The goal of outputs as a case with block variables by number.
use Rattle.std.proofs.Common.{◌≡◌, ℕ, zero, suc, List, [], ◌∷◌, ◌++◌, refl, ap, ◌∙◌}
use Rattle.std.specs.Prelude.{Some}
use Rattle.lf.specs.Syntax.{LfType}
use Rattle.lf.specs.Substitution.{keep}
use Rattle.lf.specs.Subordination.{Block}
use Rattle.lf_cases.specs.Case.{Item, block_variable}
use Rattle.lf_cases.specs.OutputGoal.{free_variables, output_goal}
use Rattle.lf_cases.specs.Pattern.{of_entry, origin, subgoal_pattern}
use Rattle.lf_totality.proofs.EntryGoals.{goals_cover}
use Rattle.lf_coverage.proofs.GoalItems.{goal_keeps}
use Rattle.lf_coverage.proofs.OutputTyped.{output_goal_is_typed_case}
use Rattle.lf_numbered.specs.EntryPatternsOutputs.{NumberedOutputGoalIsTyped, OwnBlockHasNumberZero, NumberedRunCoversOutputs, NumberedRunsGiveOutputs, NumberedRunAnswers}
use Rattle.lf_numbered.specs.NumberedInstance.{block_at}
use Rattle.lf_numbered.specs.Numbering.{numbering, own_spine}
use Rattle.lf_numbered.specs.OwnTerms.{BlockVariable, rename_blocks}
use Rattle.lf_numbered.proofs.EntryPatternsForms.{one_numbered, numbered_run_covers_case}
use Rattle.lf_numbered.proofs.EntryPatternsNumbers.{renamed_at}
use Rattle.lf_numbered.proofs.TypedNumbered.{numbered_case_is_typed}

pub numbered_output_goal_is_typed : NumberedOutputGoalIsTyped
numbered_output_goal_is_typed Σ ok W typed first free below m c d U i A sub needs sound none K e =
    let (t, l, n) = output_goal_is_typed_case Σ ok W typed below m c d U i A sub needs sound none K e in
    (numbered_case_is_typed Σ ok W typed first free (output_goal below m (origin d) U A K) t l, one_numbered first (output_goal below m (origin d) U A K).items n)

-- a block variable of number 0
abbrev ZerothOf : ℕ → Block → List Item → Type 0
ZerothOf first B I = (b : BlockVariable) × (block_at (numbering first I).blocks zero ≡ Some b) × (b.block ≡ B)

none_before : (first : ℕ) (G : List LfType) → (numbering first (free_variables G)).blocks ≡ []
none_before first [] = refl
none_before first (A ∷ G) = ap (rename_blocks suc) (none_before first G)

pub own_block_has_number_zero : OwnBlockHasNumberZero
own_block_has_number_zero first below m B later E es e U A K = goal_keeps (ZerothOf first B) (λ D I (b, p, q). let (d, r, z) = renamed_at suc (numbering first I).blocks zero b p in (d, r, z ∙ q)) below m (of_entry B later E es e) U A K start
  where
    start : ZerothOf first B (block_variable B keep ∷ free_variables B.some)
    start =
        let b : BlockVariable = record { block = B; terms = own_spine B keep (numbering first (free_variables B.some)) } in
        (b, ap (λ bs. block_at (bs ++ b ∷ []) zero) (none_before first B.some), refl)

pub numbered_run_covers_outputs : NumberedRunCoversOutputs
numbered_run_covers_outputs Σ ok W typed S first free below m c d U i A sub needs sound none K e ps r =
    let (t, l, n) = output_goal_is_typed_case Σ ok W typed below m c d U i A sub needs sound none K e in
    numbered_run_covers_case Σ ok W typed S first free ps (output_goal below m (origin d) U A K) n t r

pub numbered_runs_give_outputs : NumberedRunsGiveOutputs
numbered_runs_give_outputs Σ ok W typed first free below s m f df c d t U all_out i A sub seq needs sound none K e low runs = goals_cover Σ ok W typed below s m f c d t U all_out i A sub seq none needs K e low (λ b. numbered_run_covers_outputs Σ ok W typed (below f) first free below m c b U i A sub needs sound none K e (subgoal_pattern c (origin b) A ∷ []) (runs b))

pub numbered_run_answers : NumberedRunAnswers
numbered_run_answers Σ ok W typed first free below ps C n tc runs = λ S b. numbered_run_covers_case Σ ok W typed S first free ps C n tc (runs S b)
