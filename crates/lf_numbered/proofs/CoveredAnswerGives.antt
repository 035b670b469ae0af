-- What totality takes on trust, from the answers of `cover`.
use Rattle.std.proofs.Common.{ℕ, List, [], ◌∷◌, refl, sym, subst}
use Rattle.std.specs.Prelude.{Bool}
use Rattle.lf.specs.Syntax.{Kind, LfType}
use Rattle.lf.specs.Typing.{Signature, IsSignature}
use Rattle.lf.specs.Variables.{target}
use Rattle.lf.specs.Subordination.{Block, AreTypedBlocks, IsDeclared}
use Rattle.lf_checks.specs.Below.{IsSubordination}
use Rattle.lf_checks.specs.Clause.{Clause, IsClause}
use Rattle.lf_checks.specs.Marks.{Mark, input_places}
use Rattle.lf_cases.specs.Case.{covered_places, input_goal}
use Rattle.lf_cases.specs.Pattern.{origin, subgoal_pattern}
use Rattle.lf_cases.proofs.InputGoal.{goal_covers}
use Rattle.lf_cases.proofs.Subgoals.{below_grows}
use Rattle.lf_cases.proofs.Subordinate.{below_is_subordination}
use Rattle.lf_numbered.specs.CoveredAnswerGives.{CoveredAnswerGivesInputs, CoveredAnswerGivesOutputs, NumberedInputGoalIsBesideFamilies, NumberedOutputGoalIsBesideFamilies, OutputGoalIsCovered, TestedAreAllBelow}
use Rattle.lf_numbered.specs.EntryPatternsOutputs.{numbered_output_goal}
use Rattle.lf_numbered.specs.NumberedCalls.{IsBesideByNumber, NumberedCoverIs, all_covered}
use Rattle.lf_numbered.specs.Numbering.{numbered}
use Rattle.lf_numbered.proofs.EntryPatternsForms.{numbered_covers_case}
use Rattle.lf_numbered.proofs.EntryTermsInputs.{clause_is_closed}
use Rattle.lf_coverage.proofs.LocalsInSet.{places_in}
use Rattle.lf_numbered.proofs.NumberedCandidatesGoals.{answers_give_outputs, goal_beside}
use Rattle.lf_coverage.proofs.SubordinateRaised.{target_declared}
use Rattle.lf_coverage.proofs.TypedCases.{input_goal_is_typed_case}

pub numbered_input_goal_is_beside_families : NumberedInputGoalIsBesideFamilies
numbered_input_goal_is_beside_families Σ W first a b K e C g S sc t =
    subst (IsBesideByNumber Σ W S) (sym g) (record {
      self_contained = sc;
      kind = K;
      of_family = e;
      places = places_in S (covered_places (numbered first (input_goal a b K)).arguments) K (sc.kinds_in a K e t);
      locals = tt;
    })

pub numbered_output_goal_is_beside_families : NumberedOutputGoalIsBesideFamilies
numbered_output_goal_is_beside_families Σ W below m first c d U i A sub K e C p (g, s) S sc t = subst (IsBesideByNumber Σ W S) (sym g) (goal_beside Σ W below c d i A sub S sc t first m (origin d) U K e)

pub covered_answer_gives_inputs : CoveredAnswerGivesInputs
covered_answer_gives_inputs Σ first W r below test m a K n C g ps heads answer =
    let s : IsSubordination Σ W below = below_is_subordination Σ r.signature W r.blocks below test in
    let covered : NumberedCoverIs Σ first W below ps (numbered first (input_goal a (input_places (m a)) K)) all_covered = subst (λ D. NumberedCoverIs Σ first W below ps D all_covered) g answer in
    goal_covers Σ r.signature m W r.blocks (below a) a K n.of_family n.chosen_only ps heads
    (numbered_covers_case Σ r.signature W r.blocks (below a) first r.free ps (input_goal a (input_places (m a)) K) (input_goal_is_typed_case Σ r.signature W r.blocks a (input_places (m a)) K n.of_family n.chosen_only).0
    (covered (below a) (numbered_input_goal_is_beside_families Σ W first a (input_places (m a)) K n.of_family (numbered first (input_goal a (input_places (m a)) K)) refl (below a) (s.self_contained a (K, n.of_family)) (s.itself a))))

-- The family of a clause is declared.
pub clause_declared : (Σ : Signature) → IsSignature Σ → (W : List Block) → AreTypedBlocks Σ W → (c : Clause) → IsClause Σ W c → IsDeclared Σ (target c.type)
clause_declared Σ ok W typed c d = let (T, t, e) = clause_is_closed Σ ok W typed c d in subst (IsDeclared Σ) e (target_declared Σ [] T t)

-- The answer for a goal that is named is that for the goal itself.
pub answer_itself : (Σ : Signature) (first : ℕ) (W : List Block) (below : ℕ → ℕ → Bool) (m : ℕ → List Mark) (c : Clause) (d : IsClause Σ W c) (U : ℕ → Bool) (A : LfType) (K : Kind) → OutputGoalIsCovered Σ first W below m (origin d) U A K → NumberedCoverIs Σ first W below (subgoal_pattern c (origin d) A ∷ []) (numbered_output_goal first below m (origin d) U A K) all_covered
answer_itself Σ first W below m c d U A K (C, p, (g, q), answer) = subst (λ r. NumberedCoverIs Σ first W below (r ∷ []) (numbered_output_goal first below m (origin d) U A K) all_covered) q (subst (λ D. NumberedCoverIs Σ first W below (p ∷ []) D all_covered) g answer)

pub covered_answer_gives_outputs : CoveredAnswerGivesOutputs
covered_answer_gives_outputs Σ first W below m c o U A K n seq answers =
    let ok = n.setting.signature in
    let typed = n.setting.blocks in
    let s : IsSubordination Σ W below = below_is_subordination Σ ok W typed below n.subordination in
    answers_give_outputs Σ ok W typed below n.subordination first n.setting.free m (target c.type) (clause_declared Σ ok W typed c n.clause) c n.clause (s.itself (target c.type)) U n.outside_ground n.index A n.subgoal seq n.inputs_ground n.sound_marks n.two_marks K n.of_family
    (λ closed d. answer_itself Σ first W below m c d U A K (answers d))

pub tested_are_all_below : TestedAreAllBelow
tested_are_all_below Σ W V more below test f b s = below_grows Σ Σ W V (λ c A e. e) (λ a K e. e) more ((test f b).0 s)
