-- Runs by number of splits at candidates from the goal of inputs, and from that of a subgoal's outputs.
use Rattle.std.proofs.Common.{◌≡◌, ℕ, zero, suc, List, [], ◌∷◌, length, inl, inr, refl, sym, ap, ◌∙◌, Some}
use Rattle.std.specs.Prelude.{Bool, true}
use Rattle.lf.specs.Syntax.{LfType, Kind}
use Rattle.lf.specs.Typing.{Signature}
use Rattle.lf.specs.Variables.{target, binders, everything, FamiliesIn}
use Rattle.lf.specs.Subordination.{Block, IsBelowTest, Member, SelfContained}
use Rattle.lf.proofs.Strength.{families_renamed, family_target}
use Rattle.lf_checks.specs.Below.{IsSubordination}
use Rattle.lf_checks.specs.Clause.{Clause, IsClause, IsSubgoal}
use Rattle.lf_checks.specs.Marks.{Mark}
use Rattle.lf_cases.specs.Case.{covered_places, input_goal}
use Rattle.lf_cases.specs.OutputGoal.{output_goal}
use Rattle.lf_cases.specs.Pattern.{Pattern, Origin, origin, subgoal_pattern}
use Rattle.lf_cases.specs.Split.{Ends, at_leaf, by_split}
use Rattle.lf_cases.proofs.OutputItems.{length_instance, length_renumber}
use Rattle.lf_cases.proofs.Subordinate.{below_is_subordination, kind_places_below}
use Rattle.lf_totality.proofs.EntryGoals.{goals_cover}
use Rattle.lf_numbered.specs.CoveredAnswerGives.{AnswersGiveOutputs}
use Rattle.lf_numbered.specs.EntryTermsInputs.{closed_head}
use Rattle.lf_numbered.specs.EntryPatternsRuns.{IsNumberedLeaf}
use Rattle.lf_coverage.specs.Leaf.{IsTypedPattern}
use Rattle.lf_numbered.specs.NumberedCalls.{IsBesideByNumber}
use Rattle.lf_numbered.specs.NumberedCandidatesRuns.{NumberedCandidateRunCoversHeads, NumberedCandidateRunCoversInputs, NumberedCandidateRunCoversOutputs, NumberedCandidateRunGivesOutputs, UnifiesCandidate}
use Rattle.lf_numbered.specs.NumberedCase.{NumberedCase}
use Rattle.lf_numbered.specs.Numbering.{numbered, numbering}
use Rattle.lf_coverage.specs.Subordinate.{QuantifiersAreBelow, AllQuantifiersAreBelow}
use Rattle.lf_numbered.proofs.EntryPatternsForms.{numbered_covers_case, numbered_run_covers_case, one_numbered}
use Rattle.lf_numbered.proofs.EntryPatternsOutputs.{numbered_output_goal_is_typed}
use Rattle.lf_numbered.proofs.EntryTermsInputs.{clause_is_closed, closed_is_typed, input_goal_is_beside_by_number}
use Rattle.lf_coverage.proofs.Families.{all_binders}
use Rattle.lf_coverage.proofs.GoalItems.{one_without}
use Rattle.lf_coverage.proofs.Leaves.{subgoal_is_typed}
use Rattle.lf_coverage.proofs.LocalsInSet.{locals_in, locals_moved, locals_put, places_in}
use Rattle.lf_numbered.proofs.NumberedBesideGiven.{numbered_output_goal_is_beside}
use Rattle.lf_numbered.proofs.NumberedBesideGoals.{clause_below, subgoal_has}
use Rattle.lf_numbered.proofs.NumberedCallsGoals.{beside_by_number}
use Rattle.lf_numbered.proofs.NumberedCandidatesRuns.{candidate_run, low_put, numbered_candidate_run_covers}
use Rattle.lf_coverage.proofs.OutputRuns.{clause_families}
use Rattle.lf_coverage.proofs.OutputTyped.{output_goal_is_typed_case}
use Rattle.lf_coverage.proofs.Subordinate.{below_binders, below_renamed, below_renumbered}
use Rattle.lf_coverage.proofs.TypedCases.{input_goal_is_typed_case}

pub numbered_candidate_run_covers_inputs : NumberedCandidateRunCoversInputs
numbered_candidate_run_covers_inputs Σ ok W typed below test first free ps heads a m K e c U t ta r =
    let (tc, tl, n) = input_goal_is_typed_case Σ ok W typed a m K e c in
    let tb = input_goal_is_beside_by_number Σ ok W typed first free a m K e c U t ta in
    let tq : IsTypedPattern Σ (closed_head U) = closed_is_typed Σ ok U t in
    let sizes : (p : Pattern) → Member p ps → zero ≡ length (binders [] p.type) = λ p i. ap length (sym (heads p i)) in (
      numbered_candidate_run_covers Σ ok W typed below test first free ps (closed_head U) tq (numbered first (input_goal a m K)) (one_numbered first (input_goal a m K).items (one_without (input_goal a m K).items n)) tb sizes tt r,
      λ S b. numbered_run_covers_case Σ ok W typed S first free ps (input_goal a m K) (one_without (input_goal a m K).items n) tc (candidate_run Σ ok W typed below test first free ps (closed_head U) tq zero sizes S tb (beside_by_number Σ W S first (input_goal a m K) b) tt refl r),
    )

-- a run has a pattern
pub some_pattern : (Σ : Signature) (first : ℕ) (W : List Block) (below : ℕ → ℕ → Bool) (ps : List Pattern) (C : NumberedCase) → Ends (IsNumberedLeaf Σ first W ps) (UnifiesCandidate Σ first W below ps) C → (p : Pattern) × Member p ps
some_pattern Σ first W below ps C (at_leaf l) = (l.pattern, l.listed)
some_pattern Σ first W below ps C (by_split Cs (x, p, m, c, sp) r) = (p, m)

pub numbered_candidate_run_covers_heads : NumberedCandidateRunCoversHeads
numbered_candidate_run_covers_heads Σ ok W typed below test first free a ps heads m K e only r =
    let (p, i) = some_pattern Σ first W below ps (numbered first (input_goal a m K)) r in
    let (c, d, t, q) = heads p i in
    let (U, u, ut) = clause_is_closed Σ ok W typed c d in
    numbered_candidate_run_covers_inputs Σ ok W typed below test first free ps (λ p i. ap (λ (r : Pattern). binders [] r.type) (heads p i).3) a m K e only U u (ut ∙ t) r

-- The goal of a subgoal's outputs
module _ (Σ : Signature) (W : List Block) (below : ℕ → ℕ → Bool) (c : Clause) (d : IsClause Σ W c) (i : ℕ) (A : LfType) (sub : IsSubgoal c i A) where
  module _ (test : (f : ℕ) → IsBelowTest Σ W (below f) f) where
    subgoal_low : QuantifiersAreBelow below A
    subgoal_low = subgoal_has (QuantifiersAreBelow below) (below_renamed below suc) (λ Y B (u, y, b). (y, b)) everything c.outer c.type i A (λ j B e h. absurd cc) (clause_below Σ W below test c d) sub.0 sub.1

    pub goal_low : (first : ℕ) (m : ℕ → List Mark) (o : Origin c) (U : ℕ → Bool) (K : Kind) → AllQuantifiersAreBelow below (numbered first (output_goal below m o U A K)).local
    goal_low first m o U K = low_put below (output_goal below m o U A K).local (numbering first (output_goal below m o U A K).items).images (below_renumbered below _ (binders [] A) (below_binders below [] A tt subgoal_low))

  pub goal_size : (first : ℕ) (m : ℕ → List Mark) (o : Origin c) (U : ℕ → Bool) (K : Kind) → length (numbered first (output_goal below m o U A K)).local ≡ length (binders [] A)
  goal_size first m o U K = length_instance (output_goal below m o U A K).local (numbering first (output_goal below m o U A K).items).images ∙ length_renumber _ (binders [] A)

  -- beside a set that has the clause's family
  module _ (S : ℕ → Bool) (sc : SelfContained Σ W S) (t : S (target c.type) ≡ true) where
    pub families : FamiliesIn S A
    families = subgoal_has (FamiliesIn S) (families_renamed S suc) (λ Y B h. h) everything c.outer c.type i A (λ j B e h. absurd cc) (clause_families Σ W S sc d t) sub.0 sub.1

    pub goal_beside : (first : ℕ) (m : ℕ → List Mark) (o : Origin c) (U : ℕ → Bool) (K : Kind) → Σ.kinds (target A) ≡ Some K → IsBesideByNumber Σ W S (numbered first (output_goal below m o U A K))
    goal_beside first m o U K e = record {
      self_contained = sc;
      kind = K;
      of_family = e;
      places = places_in S (covered_places (numbered first (output_goal below m o U A K)).arguments) K (sc.kinds_in (target A) K e (family_target S A families));
      locals = locals_put S (output_goal below m o U A K).local (numbering first (output_goal below m o U A K).items).images (locals_moved S _ (binders [] A) (locals_in S (binders [] A) (all_binders S [] A tt families)));
    }

one_size : (n : ℕ) (q : Pattern) → n ≡ length (binders [] q.type) → (p : Pattern) → Member p (q ∷ []) → n ≡ length (binders [] p.type)
one_size n q z p (inl e) = z ∙ ap (λ (r : Pattern). length (binders [] r.type)) (sym e)
one_size n q z p (inr h) = absurd h

pub numbered_candidate_run_covers_outputs : NumberedCandidateRunCoversOutputs
numbered_candidate_run_covers_outputs Σ ok W typed below test first free m c d U all_out closed i A sub needs sound none K e r =
    let p : Pattern = subgoal_pattern c (origin d) A in
    numbered_candidate_run_covers Σ ok W typed below test first free (p ∷ []) p (subgoal_is_typed Σ ok W typed c d i A sub) (numbered first (output_goal below m (origin d) U A K))
    (numbered_output_goal_is_typed Σ ok W typed first free below m c d U i A sub needs sound none K e).1
    (numbered_output_goal_is_beside Σ ok W typed first free below m c d U all_out closed i A sub needs sound none K e)
    (one_size _ p (goal_size Σ W below c d i A sub first m (origin d) U K)) (goal_low Σ W below c d i A sub test first m (origin d) U K) r

-- The outputs follow from the answers for the numbered goals.
pub answers_give_outputs : AnswersGiveOutputs
answers_give_outputs Σ ok W typed below test first free m f df c d t U all_out i A sub seq needs sound none K e answers Σ' x G w h θ off σ v =
    let s : IsSubordination Σ W below = below_is_subordination Σ ok W typed below test in
    let sc : SelfContained Σ W (below f) = s.self_contained f df in
    goals_cover Σ ok W typed below s m f c d t U all_out i A sub seq none needs K e
    (kind_places_below Σ ok W typed below test f (target A) K df (family_target (below f) A (families Σ W below c d i A sub (below f) sc t)) e)
    (λ b. numbered_covers_case Σ ok W typed (below f) first free (subgoal_pattern c (origin b) A ∷ []) (output_goal below m (origin b) U A K) (output_goal_is_typed_case Σ ok W typed below m c b U i A sub needs sound none K e).0 (answers v.closed b (below f) (goal_beside Σ W below c b i A sub (below f) sc t first m (origin b) U K e)))
    Σ' x G w h θ off σ v

pub numbered_candidate_run_gives_outputs : NumberedCandidateRunGivesOutputs
numbered_candidate_run_gives_outputs Σ ok W typed below test first free m f df c d t U all_out i A sub seq needs sound none K e runs =
    answers_give_outputs Σ ok W typed below test first free m f df c d t U all_out i A sub seq needs sound none K e
    (λ closed b. numbered_candidate_run_covers_outputs Σ ok W typed below test first free m c b U all_out closed i A sub needs sound none K e (runs b))
