-- Worked runs.
use Rattle.std.proofs.Common.{[], ◌∷◌, refl}
use Rattle.lf.specs.Syntax.{star}
use Rattle.lf.specs.Subordination.{Block, Member}
use Rattle.lf_cases.specs.Reached.{goal_is_reached}
use Rattle.lf_cases.specs.Split.{Ends, at_leaf, by_split, no_case, next_case}
use Rattle.lf_checks.specs.Marks.{input_places}
use Rattle.lf_totality.specs.Examples.{Addition, addition_marks, plus_heads, plus_input_goal, plus_zero_case, plus_successor_case, plus_kind, first_below_second}
use Rattle.lf_totality.proofs.Addition.{addition_ok}
use Rattle.lf_coverage.specs.ExamplesRuns.{PlusRunCovers, PlusCasesAreAnswer, PlusIsMissing}
use Rattle.lf_coverage.specs.Leaf.{IsInstanceLeaf}
use Rattle.lf_coverage.specs.UnifiedSplit.{SolvesEachHead}
use Rattle.lf_coverage.proofs.CasesOf.{solved_run_covers_inputs, solved_split_is_answer}
use Rattle.lf_coverage.proofs.Examples.{goal_typed, plus_subordination}
use Rattle.lf_coverage.proofs.ExamplesLeaves.{zero_leaf, successor_leaf}
use Rattle.lf_coverage.proofs.ExamplesTyped.{zero_is_apart}
use Rattle.lf_coverage.proofs.ExamplesUnified.{plus_solved}
use Rattle.lf_coverage.proofs.RunTyped.{never_is_missing}

no_world : (B : Block) → Member B [] → Rattle.lf.specs.Subordination.IsTypedBlock Addition B
no_world B m = absurd m

run : Ends (IsInstanceLeaf Addition [] plus_heads) (SolvesEachHead Addition [] first_below_second) plus_input_goal
run = by_split (plus_zero_case ∷ plus_successor_case ∷ []) (1, plus_solved) (next_case (at_leaf zero_leaf) (next_case (at_leaf successor_leaf) no_case))

pub plus_run_covers : PlusRunCovers
plus_run_covers = (run, solved_run_covers_inputs Addition addition_ok [] no_world first_below_second plus_subordination plus_heads 1 (input_places (addition_marks 1)) plus_kind refl (tt, (tt, tt)) run)

pub plus_cases_are_answer : PlusCasesAreAnswer
plus_cases_are_answer = solved_split_is_answer Addition addition_ok [] no_world first_below_second plus_subordination plus_input_goal goal_typed 1 (plus_zero_case ∷ plus_successor_case ∷ []) plus_solved

pub plus_is_missing : PlusIsMissing
plus_is_missing = (never_is_missing Addition addition_ok first_below_second [] plus_input_goal goal_typed goal_typed_local (λ p m. absurd m) plus_input_goal goal_is_reached plus_kind refl (λ p m. absurd m), zero_is_apart.1)
  where
    goal_typed_local : Rattle.lf_coverage.specs.TypedLocal.HasTypedLocal Addition plus_input_goal
    goal_typed_local = ((tt, (star, refl, tt)), (star, refl, tt))
