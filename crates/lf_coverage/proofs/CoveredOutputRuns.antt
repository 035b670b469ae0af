-- Runs at candidates from the goal of the outputs of a constant's subgoal give what totality asks of it.
use Rattle.std.proofs.Common.{ℕ, ◌+◌, [], ◌∷◌}
use Rattle.std.specs.Prelude.{Bool}
use Rattle.lf.specs.Syntax.{LfType}
use Rattle.lf.specs.Typing.{Signature}
use Rattle.lf.specs.Variables.{target, binders, FamiliesIn}
use Rattle.lf.specs.Subordination.{SelfContained}
use Rattle.lf.proofs.Strength.{family_target}
use Rattle.lf_checks.specs.Below.{IsSubordination}
use Rattle.lf_checks.specs.Clause.{IsSubgoal, constant_clause, scope}
use Rattle.lf_cases.specs.Case.{chosen_count, covered_places}
use Rattle.lf_cases.specs.OutputGoal.{goal_number, closed_over, output_goal}
use Rattle.lf_cases.specs.Pattern.{of_constant, subgoal_pattern}
use Rattle.lf_cases.proofs.Subordinate.{below_is_subordination, kind_places_below}
use Rattle.lf_checks.specs.Marks.{output_places}
use Rattle.lf_totality.proofs.OutputGoals.{constant_goal_covers}
use Rattle.lf_coverage.specs.CoveredOutputRuns.{OutputGoalIsBeside, OutputPlacesAreBelow, CandidateRunGivesOutputs, CandidateRunGivesOwnOutputs, FoundRunGivesOutputs}
use Rattle.lf_coverage.proofs.CandidateRunCovers.{candidate_run_covers_outputs}
use Rattle.lf_coverage.proofs.Families.{all_binders, all_renumbered}
use Rattle.lf_coverage.proofs.LocalsInSet.{locals_in, places_in}
use Rattle.lf_coverage.proofs.OutputBeside.{output_goal_is_typed}
use Rattle.lf_coverage.proofs.RefutingNumbers.{found_run_is_refuted}
use Rattle.lf_coverage.proofs.StoreSolution.{families_at}
use Rattle.lf_coverage.proofs.SubordinateRaised.{target_declared}

-- the families in the type of a subgoal
subgoal_families : (Σ : Signature) (S : ℕ → Bool) (T : LfType) → FamiliesIn S T → (i : ℕ) (A : LfType) → IsSubgoal (constant_clause T) i A → FamiliesIn S A
subgoal_families Σ S T f i A sub = families_at S (scope (constant_clause T)) (all_binders S [] T tt f) i A sub.1

pub output_goal_is_beside : OutputGoalIsBeside
output_goal_is_beside Σ W below m k T there U i A sub K e S sc t =
    let fa : FamiliesIn S A = subgoal_families Σ S T (sc.types_in k T there t) i A sub in
    record {
      self_contained = sc;
      kind = K;
      of_family = e;
      places = places_in S (covered_places (output_goal below m (of_constant T) U A K).arguments) K (sc.kinds_in (target A) K e (family_target S A fa));
      locals = locals_in S (output_goal below m (of_constant T) U A K).local (all_renumbered S (λ j. goal_number (of_constant T) (closed_over (binders [] T) U) j + chosen_count (output_places (m (target A))) K) (binders [] A) (all_binders S [] A tt fa));
    }

pub output_places_are_below : OutputPlacesAreBelow
output_places_are_below Σ ok W typed below test f df k T there t i A sub K e =
    let sc : SelfContained Σ W (below f) = (below_is_subordination Σ ok W typed below test).self_contained f df in
    kind_places_below Σ ok W typed below test f (target A) K df (family_target (below f) A (subgoal_families Σ (below f) T (sc.types_in k T there t) i A sub)) e

pub candidate_run_gives_outputs : CandidateRunGivesOutputs
candidate_run_gives_outputs Σ ok W typed below test m f df k T there t U all_out i A sub seq needs sound none K e r Σ' x G w h θ off σ v =
    let s : IsSubordination Σ W below = below_is_subordination Σ ok W typed below test in
    constant_goal_covers Σ ok W typed below s m f k T there U all_out i A sub seq none needs K e (output_places_are_below Σ ok W typed below test f df k T there t i A sub K e)
    (candidate_run_covers_outputs Σ ok W typed below test m k T there U v.closed i A sub needs sound none K e (below f) (λ a b q z. s.through f a z b q) (output_goal_is_beside Σ W below m k T there U i A sub K e (below f) (s.self_contained f df) t) r)
    Σ' x G w h θ off σ v

pub candidate_run_gives_own_outputs : CandidateRunGivesOwnOutputs
candidate_run_gives_own_outputs Σ ok W typed below test m k T there =
    candidate_run_gives_outputs Σ ok W typed below test m (target T) (target_declared Σ [] T (ok.types_ok k T there)) k T there ((below_is_subordination Σ ok W typed below test).itself (target T))

pub found_run_gives_outputs : FoundRunGivesOutputs
found_run_gives_outputs Σ ok W typed below test m f df k T there t U all_out i A sub seq needs sound none K e r Σ' x G w h θ off σ v =
    let (tb, n) = output_goal_is_typed Σ ok W typed below m k T there U v.closed i A sub needs sound none K e in
    candidate_run_gives_outputs Σ ok W typed below test m f df k T there t U all_out i A sub seq needs sound none K e
    (found_run_is_refuted Σ ok W typed below (subgoal_pattern (constant_clause T) (of_constant T) A ∷ []) (output_goal below m (of_constant T) U A K) tb.by_skeletons tb.local_typed n r)
    Σ' x G w h θ off σ v
