-- Runs by splits on which unification answers, from the goal of outputs.
use Rattle.std.proofs.Common.{ℕ, List, [], ◌∷◌}
use Rattle.std.specs.Prelude.{Bool}
use Rattle.lf.specs.Typing.{Signature, IsSignature}
use Rattle.lf.specs.Subordination.{Block, Member, AreTypedBlocks}
use Rattle.lf_checks.specs.Clause.{from_constant, constant_clause}
use Rattle.lf_cases.specs.Case.{Case}
use Rattle.lf_cases.specs.Missing.{IsInstanceOfGoal}
use Rattle.lf_cases.specs.OutputGoal.{output_goal}
use Rattle.lf_cases.specs.Pattern.{Pattern, of_constant, subgoal_pattern}
use Rattle.lf_cases.specs.Split.{HasNoBlockVariable}
use Rattle.lf_cases.proofs.Subordinate.{below_is_subordination}
use Rattle.lf_coverage.specs.AnsweredOutputs.{AnsweredRunIsSolved, OutputGoalQuantifiesBelow, AnsweredRunCoversOutputs, AnsweredRunGivesOutputs, OutputRunStaysTyped, StrictRunStaysTyped}
use Rattle.lf_coverage.specs.Leaf.{IsTypedPattern}
use Rattle.lf_coverage.specs.SubordinateRuns.{ComesBy, comes_itself, comes_by_split}
use Rattle.lf_coverage.specs.TypedCase.{IsTypedBeside}
use Rattle.lf_coverage.specs.UnifiedSplit.{AnswersEachHead, SolvesEachHead}
use Rattle.lf_coverage.proofs.Leaves.{subgoal_is_typed}
use Rattle.lf_coverage.proofs.OutputBeside.{output_goal_is_typed}
use Rattle.lf_coverage.proofs.OutputModed.{strict_goals_are_typed}
use Rattle.lf_coverage.proofs.OutputRuns.{solved_run_covers_outputs, solved_run_gives_outputs}
use Rattle.lf_coverage.proofs.OutputTyped.{output_goal_is_typed_case}
use Rattle.lf_coverage.proofs.Runs.{other_run}
use Rattle.lf_coverage.proofs.StuckRuns.{comes_as_instance}
use Rattle.lf_coverage.proofs.SubordinateItems.{outputs_quantify_below}
use Rattle.lf_coverage.proofs.SubordinateRuns.{answered_split_is_solved, run_quantifies_below}
use Rattle.lf_coverage.proofs.TypedCases.{instance_stays_typed}

pub answered_run_is_solved : AnsweredRunIsSolved
answered_run_is_solved Σ ok W typed below test ps goal t q r = other_run {Kept = ComesBy (AnswersEachHead Σ W below) goal} (λ D k l. l) split comes_itself r
  where
    split : (C : Case) (Cs : List Case) → ComesBy (AnswersEachHead Σ W below) goal C → AnswersEachHead Σ W below C Cs → SolvesEachHead Σ W below C Cs × ((D : Case) → Member D Cs → ComesBy (AnswersEachHead Σ W below) goal D)
    split C Cs c (x, a) =
        let (tc, qc) = run_quantifies_below Σ ok W typed below test goal t q C c in
        ((x, (answered_split_is_solved Σ ok W typed below test C tc qc x Cs a).0), λ D m. comes_by_split Cs c (x, a) m)

pub output_goal_quantifies_below : OutputGoalQuantifiesBelow
output_goal_quantifies_below Σ ok W typed below test m k T there U i A sub needs sound none K e =
    let tc = (output_goal_is_typed_case Σ ok W typed below m (constant_clause T) (from_constant k T there) U i A sub needs sound none K e).0 in
    outputs_quantify_below Σ ok W typed below test k T there m U i A sub K e tc.items

pub answered_run_covers_outputs : AnsweredRunCoversOutputs
answered_run_covers_outputs Σ ok W typed below test m k T there U i A sub needs sound none K e ps r S sc t =
    let tc = (output_goal_is_typed_case Σ ok W typed below m (constant_clause T) (from_constant k T there) U i A sub needs sound none K e).0 in
    let q = output_goal_quantifies_below Σ ok W typed below test m k T there U i A sub needs sound none K e in
    solved_run_covers_outputs Σ ok W typed below (below_is_subordination Σ ok W typed below test) m (constant_clause T) (from_constant k T there) U i A sub needs sound none K e ps (answered_run_is_solved Σ ok W typed below test ps (output_goal below m (of_constant T) U A K) tc q r) S sc t tt

pub answered_run_gives_outputs : AnsweredRunGivesOutputs
answered_run_gives_outputs Σ ok W typed below test m f df k T there t U all_out i A sub seq needs sound none K e low r =
    let tc = (output_goal_is_typed_case Σ ok W typed below m (constant_clause T) (from_constant k T there) U i A sub needs sound none K e).0 in
    let q = output_goal_quantifies_below Σ ok W typed below test m k T there U i A sub needs sound none K e in
    solved_run_gives_outputs Σ ok W typed below (below_is_subordination Σ ok W typed below test) m f df k T there t U all_out i A sub seq needs sound none K e low (answered_run_is_solved Σ ok W typed below test (subgoal_pattern (constant_clause T) (of_constant T) A ∷ []) (output_goal below m (of_constant T) U A K) tc q r)

module _ (Σ : Signature) (ok : IsSignature Σ) (W : List Block) (typed : AreTypedBlocks Σ W) (below : ℕ → ℕ → Bool) (p : Pattern) (tp : IsTypedPattern Σ p) (goal : Case) where
  stays_beside : IsTypedBeside Σ W goal p × HasNoBlockVariable goal.items → (D : Case) → ComesBy (AnswersEachHead Σ W below) goal D → IsInstanceOfGoal Σ W goal D × IsTypedBeside Σ W D p
  stays_beside (tb, n) D r =
      let g : IsInstanceOfGoal Σ W goal D = comes_as_instance Σ ok W typed below goal tb.by_skeletons tb.local_typed n D r in
      (g, instance_stays_typed Σ ok W typed goal D p tp tb n g)

pub output_run_stays_typed : OutputRunStaysTyped
output_run_stays_typed Σ ok W typed below m k T there U closed i A sub needs sound none K e D r =
    stays_beside Σ ok W typed below (subgoal_pattern (constant_clause T) (of_constant T) A) (subgoal_is_typed Σ ok W typed (constant_clause T) (from_constant k T there) i A sub) (output_goal below m (of_constant T) U A K) (output_goal_is_typed Σ ok W typed below m k T there U closed i A sub needs sound none K e) D r

pub strict_run_stays_typed : StrictRunStaysTyped
strict_run_stays_typed Σ ok W typed below m moded k T there w first inputs i A sub strict none K e D r =
    stays_beside Σ ok W typed below (subgoal_pattern (constant_clause T) (of_constant T) A) (subgoal_is_typed Σ ok W typed (constant_clause T) (from_constant k T there) i A sub) (output_goal below m (of_constant T) _ A K) (strict_goals_are_typed Σ ok W typed below m moded k T there w first inputs i A sub strict none K e) D r
