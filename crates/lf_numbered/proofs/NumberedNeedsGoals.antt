-- The goals of inputs and of outputs have what the calls by number need.
use Rattle.std.proofs.Common.{◌≡◌, ℕ, zero, suc, ◌≤◌, List, [], ◌∷◌, length, inl, inr, refl, sym, ap, ◌∙◌, subst, arith, true≢false}
use Rattle.std.specs.Prelude.{Bool, true, false}
use Rattle.lf.specs.Syntax.{LfType, pi, atom, Kind, kind_pi, star}
use Rattle.lf.specs.Typing.{Signature, IsType}
use Rattle.lf.specs.Variables.{target, binders, everything, nothing, hide}
use Rattle.lf.specs.Subordination.{Block, Member}
use Rattle.lf_unification.specs.Offering.{pi_over}
use Rattle.lf_checks.specs.Clause.{Clause, IsClause, outside}
use Rattle.lf_checks.specs.Ground.{UsesGoal}
use Rattle.lf_checks.specs.Marks.{Mark, input, output, free, AreSound, MentionChosenOnly, NoneFree, input_places, output_places}
use Rattle.lf_checks.specs.Tests.{either}
use Rattle.lf_cases.specs.Case.{covered_places, input_goal}
use Rattle.lf_cases.specs.OutputGoal.{kept_terms, output_arguments, output_goal}
use Rattle.lf_cases.specs.Pattern.{Origin, Pattern, head_pattern, is_given, origin, subgoal_pattern}
use Rattle.lf_cases.specs.Raised.{other_masks}
use Rattle.lf_cases.proofs.Split.{given_same as given_alike}
use Rattle.lf_totality.proofs.GoalHolds.{goal_gives}
use Rattle.lf_totality.proofs.OutputCases.{goal_within, in_context}
use Rattle.lf_coverage.specs.Leaf.{IsTypedPattern}
use Rattle.lf_coverage.specs.Matching.{other_places}
use Rattle.lf_coverage.proofs.HeadSplit.{places_put_in}
use Rattle.lf_coverage.proofs.Leaves.{given_is, head_is_typed, subgoal_is_typed}
use Rattle.lf_coverage.proofs.Parts.{some_same}
use Rattle.lf_coverage.proofs.StuckRuns.{goal_places}
use Rattle.lf_numbered.specs.EntryTerms.{known_in}
use Rattle.lf_numbered.specs.EntryPatternsOutputs.{numbered_output_goal}
use Rattle.lf_numbered.specs.EntryPatternsRuns.{HasOneBlock}
use Rattle.lf_numbered.specs.NumberedBesideGiven.{IsTypedBesideByNumber}
use Rattle.lf_numbered.specs.NumberedCalls.{IsSetting, HasTypedBlock, IsFor, IsHeadFor, NumberedCoverNeeds, NumberedInputGoalNeeds, NumberedOutputGoalNeeds}
use Rattle.lf_numbered.specs.NumberedCase.{NumberedCase}
use Rattle.lf_numbered.specs.NumberedNeeds.{ClauseHeadsAreTyped, InputGoalHasNeeds, OutputGoalHasNeeds}
use Rattle.lf_numbered.specs.Numbering.{numbered, numbering}
use Rattle.lf_numbered.proofs.EntryPatternsOutputs.{numbered_output_goal_is_typed}
use Rattle.lf_numbered.proofs.EntrySignature.{closed_over}
use Rattle.lf_numbered.proofs.EntryTermsHeads.{type_of_head}
use Rattle.lf_numbered.proofs.EntryTermsInputs.{beside_has_typed_places, input_goal_is_beside_by_number}
use Rattle.lf_numbered.proofs.NumberedBesideGiven.{numbered_output_goal_is_beside}
use Rattle.lf_numbered.proofs.NumberedCallsGoals.{numbered_input_goal_is_typed}
use Rattle.lf_numbered.proofs.NumberedCandidatesGoals.{goal_low}
use Rattle.lf_numbered.proofs.NumberedHeads.{target_over}
use Rattle.lf_numbered.proofs.NumberedNeedsBlocks.{clause_has_typed_block}
use Rattle.lf_numbered.proofs.NumberedNeedsFor.{head_is_for, subgoal_is_for}
use Rattle.lf_numbered.proofs.NumberedNeedsSplits.{same_others}

pub clause_heads_are_typed : ClauseHeadsAreTyped
clause_heads_are_typed Σ ok W typed a ps heads p m =
    let (c, i, q, e) = heads p m in (
      subst (IsTypedPattern Σ) (sym e) (head_is_typed Σ ok W typed c i),
      subst (λ (r : Pattern). r ≡ head_pattern r.clause r.origin) (sym e) refl,
      ap (λ (r : Pattern). target r.type) e ∙ q,
      subst (λ (r : Pattern). HasTypedBlock Σ r.origin) (sym e) (clause_has_typed_block Σ W typed i),
    )

no_blocks : (C : NumberedCase) → C.blocks ≡ [] → HasOneBlock C
no_blocks C e = subst (λ (n : ℕ). n ≤ 1) (sym (ap length e)) (omega arith)

module _ (Σ : Signature) (first : ℕ) (W : List Block) (r : IsSetting Σ first W) (a : ℕ) (m : List Bool) (K : Kind) (n : NumberedInputGoalNeeds Σ first a m K) (p : Pattern) (tp : IsTypedPattern Σ p) (e : p ≡ head_pattern p.clause p.origin) (q : target p.type ≡ a) (tb : HasTypedBlock Σ p.origin) where
  abbrev G : NumberedCase
  G = numbered first (input_goal a m K)

  abbrev U : LfType
  U = pi_over p.clause.outer p.clause.type

  closed : IsType Σ [] U
  closed =
      let t : IsTypedPattern Σ (head_pattern p.clause p.origin) = subst (IsTypedPattern Σ) e tp in
      closed_over Σ p.clause.outer p.clause.type tp.outer_typed (type_of_head Σ p.clause.type p.clause.outer t.clause_typed t.type_typed)

  of_family : target U ≡ a
  of_family = target_over p.clause.outer p.clause.type ∙ sym (ap (λ (r : Pattern). target r.type) e) ∙ q

  places : covered_places G.arguments ≡ m
  places = places_put_in (numbering first (input_goal a m K).items).images (input_goal a m K).arguments ∙ goal_places nothing m K n.chosen_only

  head_for : IsHeadFor Σ first G p
  head_for =
      let b = input_goal_is_beside_by_number Σ r.signature W r.blocks first r.free a m K n.of_family n.chosen_only U closed of_family in
      let (T, hT, pT) = beside_has_typed_places Σ r.signature W r.blocks first r.free G U closed b K (ap Σ.kinds of_family ∙ n.of_family) in
      record { is_head = e; none_given = refl; no_local = refl; kind = K; of_family = n.of_family; covered_only = subst (λ k. MentionChosenOnly nothing k K) (sym places) n.chosen_only; tuple = T; at_places = hT; typed_places = pT }

  is_for : IsFor Σ first W G p
  is_for = head_is_for Σ first W G p tp tb q head_for

pub input_goal_has_needs : InputGoalHasNeeds
input_goal_has_needs Σ first W r below test a m K n C g ps heads =
    let (tg, none) = numbered_input_goal_is_typed Σ r.signature W r.blocks first r.free a m K n.of_family n.chosen_only (numbered first (input_goal a m K)) refl in
    subst (NumberedCoverNeeds Σ first W below ps) (sym g) (record {
      setting = r;
      subordination = test;
      case = tg;
      one_block = no_blocks (numbered first (input_goal a m K)) none;
      locals_below = tt;
      patterns = λ p l. let (t, e, q, b) = heads p l in is_for Σ first W r a m K n p t e q b;
    })

-- A term is given only for variables of the clause itself.
kept_within : (D : List LfType) (U : ℕ → Bool) (ρ : ℕ → ℕ) (i : ℕ) → is_given (kept_terms U D ρ) i ≡ true → in_context D i ≡ true
kept_within [] U ρ i e = absurd (true≢false (sym e))
kept_within (A ∷ D) U ρ zero e = refl
kept_within (A ∷ D) U ρ (suc i) e = kept_within D (λ j. U (suc j)) (λ j. ρ (suc j)) i e

own_variables : (A : LfType) (V : ℕ → Bool) (G : List LfType) → ((i : ℕ) → in_context G i ≡ true → V i ≡ false) → (i : ℕ) → in_context (binders G A) i ≡ true → outside A V i ≡ false
own_variables (pi B A) V G h i e = own_variables A (hide V) (B ∷ G) front i e
  where
    front : (j : ℕ) → in_context (B ∷ G) j ≡ true → hide V j ≡ false
    front zero q = refl
    front (suc j) q = h j q
own_variables (atom a S) V G h i e = h i e

-- where no place is free, the others than the outputs are the inputs
others_are_inputs : (ks : List (List Bool)) (D : List LfType) (V : ℕ → Bool) (m : List Mark) (K : Kind) → NoneFree m → AreSound V m K → other_places (output_arguments ks D (output_places m) K) ≡ input_places m
others_are_inputs ks D V [] K n s = refl
others_are_inputs ks D V (input ∷ m) star n s = absurd s
others_are_inputs ks D V (output ∷ m) star n s = absurd s
others_are_inputs ks D V (free ∷ m) K n s = absurd n
others_are_inputs ks D V (input ∷ m) (kind_pi A K) n s = ap (λ bs. true ∷ bs) (others_are_inputs ks D _ m K n s.1)
others_are_inputs ks D V (output ∷ m) (kind_pi A K) n s = ap (λ bs. false ∷ bs) (others_are_inputs (other_masks ks) D _ m K n s)

module _ (Σ : Signature) (first : ℕ) (W : List Block) (below : ℕ → ℕ → Bool) (m : ℕ → List Mark) (c : Clause) (d : IsClause Σ W c) (U : ℕ → Bool) (A : LfType) (K : Kind) (n : NumberedOutputGoalNeeds Σ first W below m (origin d) U A K) where
  abbrev O : NumberedCase
  O = numbered_output_goal first below m (origin d) U A K

  abbrev asked : Pattern
  asked = subgoal_pattern c (origin d) A

  beside : IsTypedBesideByNumber Σ first W O asked
  beside = numbered_output_goal_is_beside Σ n.setting.signature W n.setting.blocks first n.setting.free below m c d U n.outside_ground n.ground_types n.index A n.subgoal n.inputs_ground n.sound_marks n.two_marks K n.of_family

  given_same : (i : ℕ) → is_given O.given i ≡ is_given (output_goal below m (origin d) U A K).given i
  given_same i = given_alike O.given (output_goal below m (origin d) U A K).given (places_put_in (numbering first (output_goal below m (origin d) U A K).items).images (output_goal below m (origin d) U A K).given) i

  given_is_own : (i : ℕ) → is_given O.given i ≡ true → outside c.type everything i ≡ false
  given_is_own i e = own_variables c.type everything [] (λ j q. absurd (true≢false (sym q))) i (kept_within (binders [] c.type) U _ i (sym (given_same i) ∙ e))

  known : (i : ℕ) → U i ≡ true → known_in O asked i ≡ true
  known i u = by (outside c.type everything i) refl
    where
      right : (b : Bool) → either b true ≡ true
      right true = refl
      right false = refl

      by : (b : Bool) → outside c.type everything i ≡ b → known_in O asked i ≡ true
      by true q = ap (either (is_given O.given i)) q ∙ right (is_given O.given i)
      by false q =
          let (M, g) = (goal_gives below m (origin d) U A K).0 i u q in
          ap (λ b. either b (outside c.type everything i)) (given_same i ∙ given_is (output_goal below m (origin d) U A K).given i M g)

  known_places : UsesGoal (known_in O asked) (other_places O.arguments) A
  known_places =
      let (L, k, s) = n.sound_marks in
      let e : other_places O.arguments ≡ input_places (m (target A)) =
      same_others O.arguments (output_goal below m (origin d) U A K).arguments (places_put_in _ (output_goal below m (origin d) U A K).arguments)
      ∙ others_are_inputs _ (binders [] A) nothing (m (target A)) K n.two_marks (subst (AreSound nothing (m (target A))) (some_same (sym k ∙ n.of_family)) s) in
      subst (λ b. UsesGoal (known_in O asked) b A) (sym e) (goal_within U (known_in O asked) (input_places (m (target A))) A known n.inputs_ground)

  subgoal_for : IsFor Σ first W O asked
  subgoal_for = subgoal_is_for Σ first W n.setting.blocks O asked (subgoal_is_typed Σ n.setting.signature W n.setting.blocks c d n.index A n.subgoal) given_is_own (record { at_first = refl; typed_beside = beside; known_places = known_places })

  pub output_needs : NumberedCoverNeeds Σ first W below (asked ∷ []) O
  output_needs =
      let (t, one) = numbered_output_goal_is_typed Σ n.setting.signature W n.setting.blocks first n.setting.free below m c d U n.index A n.subgoal n.inputs_ground n.sound_marks n.two_marks K n.of_family in
      record { setting = n.setting; subordination = n.subordination; case = t; one_block = one; locals_below = goal_low Σ W below c d n.index A n.subgoal n.subordination first m (origin d) U K; patterns = only }
    where
      only : (p : Pattern) → Member p (asked ∷ []) → IsFor Σ first W O p
      only p (inl e) = subst (IsFor Σ first W O) (sym e) subgoal_for
      only p (inr l) = absurd l

pub output_goal_has_needs : OutputGoalHasNeeds
output_goal_has_needs Σ first W below m c o U A K n C p (g, s) =
    let k : NumberedOutputGoalNeeds Σ first W below m (origin n.clause) U A K = subst (λ (x : Origin c). NumberedOutputGoalNeeds Σ first W below m x U A K) n.is_origin n in
    subst (λ D. NumberedCoverNeeds Σ first W below (p ∷ []) D) (sym g)
    (subst (λ q. NumberedCoverNeeds Σ first W below (q ∷ []) (numbered_output_goal first below m o U A K)) (sym s)
    (subst (λ (x : Origin c). NumberedCoverNeeds Σ first W below (subgoal_pattern c x A ∷ []) (numbered_output_goal first below m x U A K)) (sym n.is_origin) (output_needs Σ first W below m c n.clause U A K k)))
