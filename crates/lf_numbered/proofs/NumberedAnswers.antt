-- What `instance_of` answers by number where a case and a pattern have what it needs.
use Rattle.std.proofs.Common.{◌≡◌, ℕ, zero, ◌≤◌, ◌⊎◌, List, [], ◌∷◌, length, inl, inr, refl, sym, ap, ◌∙◌, subst, arith}
use Rattle.std.specs.Prelude.{Some}
use Rattle.lf.specs.Syntax.{Kind}
use Rattle.lf.specs.Substitution.{Image, keep}
use Rattle.lf.specs.Typing.{Signature, IsContext}
use Rattle.lf.specs.Variables.{target, binders, nothing, onto}
use Rattle.lf.specs.Subordination.{Block, Member, AreTypedBlocks}
use Rattle.lf.specs.Extension.{Extends}
use Rattle.lf_unification.specs.Solving.{IsWellFormed}
use Rattle.lf_checks.specs.Clause.{Clause}
use Rattle.lf_checks.specs.Marks.{MentionChosenOnly, TypedPlaces}
use Rattle.lf_cases.specs.Case.{covered_places}
use Rattle.lf_cases.specs.Missing.{blocks_with}
use Rattle.lf_cases.specs.Pattern.{Origin, of_constant, of_entry, Pattern}
use Rattle.lf_totality.proofs.After.{Extends-self}
use Rattle.lf_coverage.specs.Calls.{Matched, apart, instance}
use Rattle.lf_coverage.proofs.Parts.{some_same}
use Rattle.lf_numbered.specs.EntryPatterns.{IsInstanceOfPattern}
use Rattle.lf_numbered.specs.EntryConstants.{with_entries}
use Rattle.lf_numbered.specs.MeetsAnswers.{ArePlacesReady, AreRefuted, FitsPattern, IsMetByNumber, IsOfWorlds, IsPlace, IsRefutedByNumber, entries_at}
use Rattle.lf_numbered.specs.MeetsReady.{HasTypedPlaces}
use Rattle.lf_numbered.specs.MeetsTuple.{IsGivenBeside}
use Rattle.lf_numbered.specs.NumberedAnswers.{BesideHasTypedBlock, ClauseHeadsHaveTypedBlocks, NeededBlocksAreTyped, NeededFits, NeededIsAnswered, NeededMetIsMeeting, NeededPlacesAreReady, ReachedIsAnswered, RefutedByNumberIsApart}
use Rattle.lf_numbered.specs.NumberedCalls.{HasTypedBlock, IsHeadFor, IsSubgoalFor, NumberedMatchedIs, NumberedMatchedNeeds}
use Rattle.lf_numbered.specs.NumberedCallsMeeting.{SharesInstance}
use Rattle.lf_numbered.specs.NumberedCallsStores.{MeetsByNumber, meet_store_by_number}
use Rattle.lf_numbered.specs.NumberedCase.{NumberedCase}
use Rattle.lf_numbered.specs.OwnTerms.{blocks_of, own_terms}
use Rattle.lf_numbered.specs.TypedNumbered.{IsTypedNumberedCase}
use Rattle.lf_numbered.proofs.MeetsAnswersAnswer.{meeting_answer, met_is_meeting}
use Rattle.lf_numbered.proofs.MeetsAnswersRuns.{beside_fits, covered_count, places_count}
use Rattle.lf_numbered.proofs.MeetsAnswersSearch.{places_are_searched}
use Rattle.lf_numbered.proofs.MoreWorlds.{case_with_more, more_worlds, with_more}
use Rattle.lf_numbered.proofs.MeetsInstance.{refuted_beside_shares_none, refuted_shares_none}
use Rattle.lf_numbered.proofs.MeetsReadyGivenMeets.{given_meet_store_is_ready}
use Rattle.lf_numbered.proofs.MeetsReadyInputs.{input_meet_store_is_ready}
use Rattle.lf_numbered.proofs.MeetsReadyMeets.{place_signature}
use Rattle.lf_numbered.proofs.MeetsTupleAll.{own_block_is_first, refuted_is_apart}
use Rattle.lf_numbered.proofs.NumberedNeedsBlocks.{beside_has_own_typed, clause_has_typed_block, with_own_typed}
use Rattle.lf_numbered.proofs.NumberedNeedsDecided.{needed_instance_is_decided}
use Rattle.lf_numbered.proofs.NumberedNeedsSplits.{reached_has_needs}

pub clause_heads_have_typed_blocks : ClauseHeadsHaveTypedBlocks
clause_heads_have_typed_blocks Σ W typed a ps heads p l = let (c, i, e, q) = heads p l in with_own_typed Σ W typed p.origin (subst (λ (r : Pattern). HasTypedBlock Σ r.origin) (sym q) (clause_has_typed_block Σ W typed i))

pub beside_has_typed_block : BesideHasTypedBlock
beside_has_typed_block Σ W typed first C p t = with_own_typed Σ W typed p.origin (beside_has_own_typed Σ W typed first C p t)

pub needed_blocks_are_typed : NeededBlocksAreTyped
needed_blocks_are_typed Σ first W C p n = with_own_typed Σ W n.setting.blocks p.origin n.pattern.typed_block

-- a clause is of the worlds with its own block
own_world : {c : Clause} (o : Origin c) (W : List Block) → IsOfWorlds o (blocks_with o W)
own_world (of_constant U) W = tt
own_world (of_entry B later E es e) W = inl refl

-- With it twice there are no more.
own_twice : {c : Clause} (o : Origin c) (W : List Block) (B : Block) → Member B (blocks_with o (blocks_with o W)) → Member B (blocks_with o W)
own_twice (of_constant U) W B m = m
own_twice (of_entry D later E es e) W B (inl q) = inl q
own_twice (of_entry D later E es e) W B (inr m) = m

shares_back : (Σ : Signature) (first : ℕ) (W : List Block) (C : NumberedCase) (p : Pattern) → SharesInstance Σ first (blocks_with p.origin W) C p → SharesInstance Σ first W C p
shares_back Σ first W C p s =
    let t = s.typed_variables in
    record {
      common = s.common;
      typed_variables = record { variables = t.variables; on_own_terms = t.on_own_terms; blocks = more_worlds (with_entries Σ first (blocks_of s.common.blocks)) (blocks_with p.origin (blocks_with p.origin W)) (blocks_with p.origin W) (own_twice p.origin W) s.common.variables (own_terms first s.common.blocks) s.common.blocks t.blocks };
      numbers = s.numbers;
      zeroth = s.zeroth;
      values = s.values;
      of_case = s.of_case;
      of_pattern = s.of_pattern;
    }

none_below : (n : ℕ) → n ≤ zero → n ≡ zero
none_below n l = omega (arith, l)

no_entries : {A : Type 0} (xs : List A) → length xs ≡ zero → xs ≡ []
no_entries [] e = refl
no_entries (x ∷ xs) e = absurd cc

module _ (Σ : Signature) (first : ℕ) (W : List Block) (C : NumberedCase) (p : Pattern) (n : NumberedMatchedNeeds Σ first W C p) where
  family : (K : Kind) → Σ.kinds C.family ≡ Some K → Σ.kinds (target p.type) ≡ Some K
  family K kd = ap Σ.kinds n.pattern.same_family ∙ kd

  -- A head: the arguments have the types of their places, under no local context.
  module _ (h : IsHeadFor Σ first C p) where
    no_binders : binders [] p.type ≡ []
    no_binders = no_entries (binders [] p.type) (sym n.pattern.same_length ∙ ap length h.no_local)

    typed_places : (K : Kind) → Σ.kinds C.family ≡ Some K → HasTypedPlaces (with_entries Σ first (blocks_of C.blocks)) C K
    typed_places K kd =
        let q : h.kind ≡ K = some_same (sym h.of_family ∙ kd) in
        record {
          mention = subst (MentionChosenOnly nothing (covered_places C.arguments)) q h.covered_only;
          tuple = h.tuple;
          are = h.at_places;
          typed = subst (λ L. TypedPlaces (with_entries Σ first (blocks_of C.blocks)) (covered_places C.arguments) (onto L C.variables) h.tuple K) (sym h.no_local) (subst (λ X. TypedPlaces (with_entries Σ first (blocks_of C.blocks)) (covered_places C.arguments) C.variables h.tuple X) q h.typed_places);
        }

    head_fits : (K : Kind) → Σ.kinds C.family ≡ Some K → FitsPattern Σ (blocks_with p.origin W) C p K
    head_fits K kd = record {
      of_worlds = own_world p.origin W;
      of_family = kd;
      same_family = n.pattern.same_family;
      all_places = sym (covered_count C.arguments) ∙ places_count _ (covered_places C.arguments) (onto C.local C.variables) keep (typed_places K kd).tuple K (typed_places K kd).typed;
      same_local = n.pattern.same_length;
      given_own = n.pattern.given_own;
    }

    head_ready : AreTypedBlocks Σ (blocks_with p.origin W) → (K : Kind) → Σ.kinds C.family ≡ Some K → (π : ℕ → ℕ) (J : NumberedCase) (φ : ℕ → Image) → IsPlace first C p π J φ → (Σe : Signature) → Extends nothing (entries_at Σ first J) Σe → IsWellFormed Σe (meet_store_by_number π J p φ K)
    head_ready typed K kd π J φ x = input_meet_store_is_ready Σ n.setting.signature W first n.setting.free C n.case h.none_given p n.pattern.typed typed (subst (IsContext Σ) (sym no_binders) tt) (h.no_local ∙ sym no_binders) K (family K kd) (typed_places K kd) π x.identifies J φ x.beside

  -- A subgoal: the case is typed beside it.
  module _ (g : IsSubgoalFor Σ first W C p) where
    subgoal_ready : (K : Kind) → Σ.kinds C.family ≡ Some K → (π : ℕ → ℕ) (J : NumberedCase) (φ : ℕ → Image) → IsPlace first C p π J φ → (Σe : Signature) → Extends nothing (entries_at Σ first J) Σe → IsWellFormed Σe (meet_store_by_number π J p φ K)
    subgoal_ready K kd π J φ x = given_meet_store_is_ready Σ n.setting.signature W n.setting.blocks first n.setting.free C p n.pattern.typed g.at_first g.typed_beside n.pattern.given_own K (family K kd) π x.identifies (none_below (π zero) (x.oldest zero)) J φ x.beside

  -- the case over the worlds with the pattern's own block
  case_more : IsTypedNumberedCase Σ first (blocks_with p.origin W) C
  case_more = case_with_more Σ first W (blocks_with p.origin W) (with_more p.origin W) C n.case

  fits : IsHeadFor Σ first C p ⊎ IsSubgoalFor Σ first W C p → (K : Kind) → Σ.kinds C.family ≡ Some K → FitsPattern Σ (blocks_with p.origin W) C p K
  fits (inl h) K kd = head_fits h K kd
  fits (inr g) K kd = beside_fits Σ (blocks_with p.origin W) first C p (record { typed = case_more; outer = g.typed_beside.outer; stands = g.typed_beside.stands; beside = g.typed_beside.beside }) (own_world p.origin W) n.pattern.given_own K kd

  ready : IsHeadFor Σ first C p ⊎ IsSubgoalFor Σ first W C p → AreTypedBlocks Σ (blocks_with p.origin W) → (K : Kind) → Σ.kinds C.family ≡ Some K → (π : ℕ → ℕ) (J : NumberedCase) (φ : ℕ → Image) → IsPlace first C p π J φ → (Σe : Signature) → Extends nothing (entries_at Σ first J) Σe → IsWellFormed Σe (meet_store_by_number π J p φ K)
  ready (inl h) typed K kd = head_ready h typed K kd
  ready (inr g) typed K kd = subgoal_ready g K kd

  shares_none : IsHeadFor Σ first C p ⊎ IsSubgoalFor Σ first W C p → AreTypedBlocks Σ (blocks_with p.origin W) → (K : Kind) → AreRefuted Σ first C p K → SharesInstance Σ first W C p → ⊥
  shares_none (inl h) typed K r = refuted_shares_none Σ n.setting.signature W first n.setting.free C n.case h.none_given p n.pattern.typed typed (own_block_is_first p.origin p.at_first C n.pattern.own_block) n.pattern.same_length K r
  shares_none (inr g) typed K r = refuted_beside_shares_none Σ n.setting.signature W first n.setting.free C p n.pattern.typed typed g.at_first g.typed_beside n.pattern.given_own K r

  given_beside : IsHeadFor Σ first C p ⊎ IsSubgoalFor Σ first W C p → IsGivenBeside Σ first W C p
  given_beside (inl h) = inl h.none_given
  given_beside (inr g) = inr (g.at_first, g.typed_beside, n.pattern.given_own)

pub needed_fits : NeededFits
needed_fits Σ first W C p n = fits Σ first W C p n n.pattern.beside

pub needed_places_are_ready : NeededPlacesAreReady
needed_places_are_ready Σ first W C p n = ready Σ first W C p n n.pattern.beside (needed_blocks_are_typed Σ first W C p n)

pub refuted_by_number_is_apart : RefutedByNumberIsApart
refuted_by_number_is_apart Σ first W C p n K kd r =
    let all : AreRefuted Σ first C p K = λ π J φ x s. (needed_places_are_ready Σ first W C p n K kd π J φ x, r π J φ x s) in
    refuted_is_apart Σ n.setting.signature W n.setting.blocks first n.setting.free C n.case p (given_beside Σ first W C p n n.pattern.beside) n.pattern.typed (own_block_is_first p.origin p.at_first C n.pattern.own_block) n.pattern.same_length K all (shares_none Σ first W C p n n.pattern.beside (needed_blocks_are_typed Σ first W C p n) K all)

pub needed_met_is_meeting : NeededMetIsMeeting
needed_met_is_meeting Σ first W C p n K kd m = by (met_is_meeting Σ n.setting.signature (blocks_with p.origin W) (needed_blocks_are_typed Σ first W C p n) first n.setting.free C (case_more Σ first W C p n) p n.pattern.typed K (needed_fits Σ first W C p n K kd) ready_here m)
  where
    ready_here : ArePlacesReady Σ first C p K
    ready_here π J φ x = needed_places_are_ready Σ first W C p n K kd π J φ x (entries_at Σ first J) (Extends-self nothing (entries_at Σ first J) (place_signature Σ n.setting.signature W first n.setting.free C n.case p (needed_blocks_are_typed Σ first W C p n) π x.identifies J φ x.beside))

    by : MeetsByNumber Σ first (blocks_with p.origin W) C p → MeetsByNumber Σ first W C p
    by (inl s) = inl (shares_back Σ first W C p s)
    by (inr o) = inr o

pub needed_is_answered : NeededIsAnswered
needed_is_answered Σ first W C p n K kd answers = by (needed_instance_is_decided Σ first W C p n).1 (places_are_searched Σ first C p K answers)
  where
    by : Dec (IsInstanceOfPattern Σ first C p) → IsRefutedByNumber Σ first C p K ⊎ IsMetByNumber Σ first C p K → (m : Matched) × NumberedMatchedIs Σ first W C p m
    by (yes i) a = (instance, i)
    by (no q) (inl r) = (apart, refuted_by_number_is_apart Σ first W C p n K kd (λ π J φ x s. r π J φ x))
    by (no q) (inr m) = meeting_answer Σ first W C p q (needed_met_is_meeting Σ first W C p n K kd m)

pub reached_is_answered : ReachedIsAnswered
reached_is_answered Σ first W below ps goal n D r p l K kd answers = needed_is_answered Σ first W D p (reached_has_needs Σ first W below ps goal n D r p l).0 K kd answers
