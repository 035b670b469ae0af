-- What steps refute they refute under other numbers, and so a split is one whatever numbers the stores of its heads have.
use Rattle.std.proofs.Common.{◌≡◌, ℕ, ◌+◌, List, [], inl, inr, refl, sym, ap, ◌∙◌, subst}
use Rattle.std.specs.Prelude.{Bool, Option, Some, None, ◌⊎◌}
use Rattle.lf.specs.Subordination.{Block, Member, AreTypedBlocks}
use Rattle.lf.specs.Syntax.{Term, LfType, Kind, lambda, root}
use Rattle.lf.specs.Typing.{Signature, IsSignature, TypeAt}
use Rattle.lf.specs.Variables.{target}
use Rattle.lf_unification.specs.Outside.{IsLambda}
use Rattle.lf_unification.specs.Solving.{IsWellFormed, Never, Solved}
use Rattle.lf_unification.specs.Steps.{CanRefute, IsRefuted, constants_differ, variables_differ, constant_or_variable, variable_escapes, occurs_inside}
use Rattle.lf_unification.specs.Unifiers.{Store, on_left, on_right}
use Rattle.lf_unification.proofs.Runs.{run_refuted}
use Rattle.lf_unification.proofs.Solving.{solved_not_never}
use Rattle.lf_cases.specs.Case.{Case, items_context}
use Rattle.lf_cases.specs.Missing.{IsInstanceOfGoal}
use Rattle.lf_cases.specs.Reached.{arguments_count, SplitHead}
use Rattle.lf_cases.specs.Split.{HasNoBlockVariable}
use Rattle.lf_coverage.specs.CandidateRuns.{RefutesCandidate}
use Rattle.lf_coverage.specs.HeadOrder.{Offer}
use Rattle.lf_coverage.specs.Heads.{IsTypedCase}
use Rattle.lf_coverage.specs.MeetStore.{meet_store}
use Rattle.lf_coverage.specs.RefutedSplits.{IsRefutedSplit}
use Rattle.lf_coverage.specs.RefutingNumbers.{FindsCandidate, FoundRunIsRefuted, FoundSplitIsAnswer, FoundSplitIsRefuted, HeadIsFound, RefutedGivesNoneUnderNumbers, RefutedIsApartUnderNumbers, RefutedSplitIsFound, RefutedUnderNumbers, RunUnderNumbers, SolvingFinds}
use Rattle.lf_coverage.specs.Renumbering.{Renumbering, undone, renumbered, renumbered_order, renumbered_type, renumbered_locals, renumbered_store}
use Rattle.lf_coverage.specs.SplitStore.{solved_case, solved_case_at, split_store}
use Rattle.lf_coverage.specs.SubordinateRuns.{ComesBy, comes_itself, comes_by_split}
use Rattle.lf_coverage.specs.TypedLocal.{HasTypedLocal}
use Rattle.lf_coverage.specs.UnifiedSplit.{AnswersEachHead, HeadIsAnswered, UnifierFinds}
use Rattle.lf_coverage.proofs.HeadSplit.{answered_by}
use Rattle.lf_coverage.proofs.Listed.{answer_of}
use Rattle.lf_coverage.proofs.RefutedSplits.{refuted_gives_none, refuted_split_is_answer}
use Rattle.lf_coverage.proofs.RenumberedBack.{declared_at, returned_store}
use Rattle.lf_coverage.proofs.RenumberedPatterns.{is_pattern, never_inverted, occurs_rigid, store_same}
use Rattle.lf_coverage.proofs.RenumberedRuns.{run_under}
use Rattle.lf_coverage.proofs.RenumberedSolving.{same_read, solved_under_numbers}
use Rattle.lf_coverage.proofs.RenumberedSplit.{declared_there, read_alike, found_under_numbers}
use Rattle.lf_coverage.proofs.RenumberedSteps.{at_pattern}
use Rattle.lf_coverage.proofs.Runs.{other_run}
use Rattle.lf_coverage.proofs.RunTyped.{instance_is_typed_case}
use Rattle.lf_coverage.proofs.StuckRuns.{comes_as_instance}
use Rattle.lf_coverage.proofs.TypedCases.{meet_store_is_ready, never_is_apart_beside, split_store_is_ready}
use mathlib.Core.Path.{fun_ext}

is_lambda_back : (f : ℕ → ℕ) (N : Term) → IsLambda (renumbered f N) → IsLambda N
is_lambda_back f (lambda M) h = h
is_lambda_back f (root g S) h = h

module _ (Σ : Signature) (ok : IsSignature Σ) where
  pub refuted_moved : (π : Renumbering) {s : Store} → IsRefuted s → IsRefuted (renumbered_store π s)
  refuted_moved π (constants_differ n) = constants_differ n
  refuted_moved π (variables_differ n) = variables_differ n
  refuted_moved π (constant_or_variable on_left D c i S T C) = constant_or_variable on_left _ c i _ _ _
  refuted_moved π (constant_or_variable on_right D c i S T C) = constant_or_variable on_right _ c i _ _ _
  refuted_moved π (variable_escapes {Ψ = Ψ} {es = es} {A = A} side D m xs N C e p n) = subst IsRefuted (sym (store_same refl refl (at_pattern Σ ok π Ψ es side D m xs N C))) (variable_escapes side (renumbered_locals π.to D) (π.to m) xs (renumbered π.to N) (renumbered_type π.to C) (declared_at π Ψ m A e) (is_pattern π Ψ D m xs p) (never_inverted π Ψ D m xs N n))
  refuted_moved π (occurs_inside {Ψ = Ψ} {es = es} {A = A} side D m xs N C e p l o) = subst IsRefuted (sym (store_same refl refl (at_pattern Σ ok π Ψ es side D m xs N C))) (occurs_inside side (renumbered_locals π.to D) (π.to m) xs (renumbered π.to N) (renumbered_type π.to C) (declared_at π Ψ m A e) (is_pattern π Ψ D m xs p) (λ h. l (is_lambda_back π.to N h)) (occurs_rigid π Ψ D m xs N o))

  refuted_under : (π : Renumbering) (s : Store) → CanRefute Σ s → CanRefute Σ (renumbered_store π s)
  refuted_under π s c = let (ρ, a, r) = run_under Σ ok π c.run in record { reached = renumbered_store ρ c.reached; run = r; refuted = refuted_moved ρ c.refuted }

pub run_under_numbers : RunUnderNumbers
run_under_numbers Σ ok π before after r = run_under Σ ok π r

pub refuted_under_numbers : RefutedUnderNumbers
refuted_under_numbers Σ ok π s = (refuted_under Σ ok π s, λ c. subst (CanRefute Σ) (returned_store π s) (refuted_under Σ ok (undone π) (renumbered_store π s) c))

pub refuted_gives_none_under_numbers : RefutedGivesNoneUnderNumbers
refuted_gives_none_under_numbers Σ ok W typed below S C tc x X at J n h A sh nj K e π c = refuted_gives_none Σ ok W typed below S C tc x X at J n h A sh nj K e ((refuted_under_numbers Σ ok π (split_store below x X J n h A K)).1 c)

pub refuted_is_apart_under_numbers : RefutedIsApartUnderNumbers
refuted_is_apart_under_numbers Σ ok W typed C nc p tp i tb K e π c =
    let d : CanRefute Σ (meet_store C p K) = (refuted_under_numbers Σ ok π (meet_store C p K)).1 c in
    never_is_apart_beside Σ ok W typed C nc p tp i tb K e (run_refuted Σ ok (meet_store_is_ready Σ ok W typed C p tp tb K e) d.run d.refuted)

some_kind : {K L : Kind} → Some K ≡ Some L → K ≡ L
some_kind e = cc

module _ (Σ : Signature) (ok : IsSignature Σ) (W : List Block) (typed : AreTypedBlocks Σ W) (below : ℕ → ℕ → Bool) (C : Case) (tc : IsTypedCase Σ W C) (tl : HasTypedLocal Σ C) (x : ℕ) (Cs : List Case) (X : LfType) (at : TypeAt (items_context C.items) x X) (h : Offer) (sh : SplitHead Σ W C.items X h.items h.moved h.head h.type) where
  abbrev store : Kind → Store
  store K = split_store below x X h.items h.moved h.head h.type K

  abbrev moved : ℕ
  moved = h.moved + arguments_count h.type

  ready : (K : Kind) → Σ.kinds (target X) ≡ Some K → IsWellFormed Σ (store K)
  ready K e = (split_store_is_ready Σ ok W typed below C tc x X at h.items h.moved h.head h.type sh K e).1

  head_refuted : HeadIsFound Σ below C x X h None → (K : Kind) → Σ.kinds (target X) ≡ Some K → CanRefute Σ (store K)
  head_refuted a K e = subst (λ L. CanRefute Σ (store L)) (some_kind (sym a.of_family ∙ e)) ((refuted_under_numbers Σ ok a.numbers (store a.kind)).1 a.finds)

  head_solved : (found : Option Case) → HeadIsFound Σ below C x X h found → HeadIsAnswered Σ below C x X h found
  head_solved None a = record { kind = a.kind; of_family = a.of_family; no_block = a.no_block; finds = let c : CanRefute Σ (store a.kind) = head_refuted a a.kind a.of_family in run_refuted Σ ok (ready a.kind a.of_family) c.run c.refuted }
  head_solved (Some D) a =
      let (after, s, e) = a.finds in
      record { kind = a.kind; of_family = a.of_family; no_block = a.no_block; finds = subst (λ E. UnifierFinds Σ below C x X h a.kind (Some E)) (sym e) ((found_under_numbers Σ ok W typed below C tc tl x X at h sh a.no_block a.kind a.of_family a.numbers).1 after s) }

  -- what is never solved is what solving finds nothing for
  refuted_of : ((D : Case) × Member D Cs × HeadIsFound Σ below C x X h (Some D)) ⊎ HeadIsFound Σ below C x X h None → (K : Kind) → Σ.kinds (target X) ≡ Some K → Never Σ [] (store K) → CanRefute Σ (store K)
  refuted_of (inr a) K e n = head_refuted a K e
  refuted_of (inl (D, m, a)) K e n =
      let b : HeadIsAnswered Σ below C x X h (Some D) = head_solved (Some D) a in
      let (after, s, q) = b.finds in
      absurd (solved_not_never Σ ok (store b.kind) after s (subst (λ L. Never Σ [] (store L)) (some_kind (sym e ∙ b.of_family)) n))

  -- the other way round, in any numbers
  module _ (π : Renumbering) (nj : HasNoBlockVariable h.items) (K : Kind) (e : Σ.kinds (target X) ≡ Some K) where
    pub solved_here : (after : Store) (s : Solved Σ (store K) after) → SolvingFinds Σ below C x X h K π (Some (solved_case C moved after s.well_formed.order))
    solved_here after s =
        let (ρ, a, t, q) = solved_under_numbers Σ ok π (store K) after (ready K e) s in
        let agree = read_alike Σ W C tc tl (renumbered_store ρ after) (renumbered_order ρ.to s.well_formed.order) (λ i. ρ.to (i + moved)) (λ i. π.to (i + moved)) (λ i B b. let (Y, d) = declared_there Σ W below C.items X h.items h.moved h.head h.type sh nj i B b in a (i + moved) Y d) in
        let same = same_read Σ ok ρ after s.well_formed s.none_left C (λ i. ρ.to (i + moved)) ∙ ap (λ g. solved_case_at C g after s.well_formed.order) (fun_ext (λ i. ρ.back_to (i + moved))) in
        (renumbered_store ρ after, t, sym (ap (solved_case_at C (λ i. π.to (i + moved)) (renumbered_store ρ after)) q ∙ sym agree ∙ same))

  head_found : (found : Option Case) → Renumbering → HeadIsAnswered Σ below C x X h found → ((K : Kind) → Σ.kinds (target X) ≡ Some K → Never Σ [] (store K) → CanRefute Σ (store K)) → HeadIsFound Σ below C x X h found
  head_found None π a c = record { kind = a.kind; of_family = a.of_family; no_block = a.no_block; numbers = π; finds = (refuted_under_numbers Σ ok π (store a.kind)).0 (c a.kind a.of_family a.finds) }
  head_found (Some D) π a c =
      let (after, s, e) = a.finds in
      record { kind = a.kind; of_family = a.of_family; no_block = a.no_block; numbers = π; finds = subst (λ E. SolvingFinds Σ below C x X h a.kind π (Some E)) (sym e) (solved_here π a.no_block a.kind a.of_family after s) }

pub found_split_is_refuted : FoundSplitIsRefuted
found_split_is_refuted Σ ok W typed below C tc tl x Cs sp = record {
  answered = answered_by sp (λ h found m a. head_solved Σ ok W typed below C tc tl x Cs sp.type sp.at h (sp.are_offers.each h m) found a);
  refuted = λ h m K e n. refuted_of Σ ok W typed below C tc tl x Cs sp.type sp.at h (sp.are_offers.each h m) (answer_of sp.listed h m) K e n;
}

pub refuted_split_is_found : RefutedSplitIsFound
refuted_split_is_found Σ ok W typed below C tc tl x Cs numbers sp = answered_by sp.answered (λ h found m a. head_found Σ ok W typed below C tc tl x Cs sp.answered.type sp.answered.at h (sp.answered.are_offers.each h m) found (numbers h) a (sp.refuted h m))

pub found_split_is_answer : FoundSplitIsAnswer
found_split_is_answer Σ ok W typed below test C tc tl q x Cs sp = refuted_split_is_answer Σ ok W typed below test C tc q x Cs (found_split_is_refuted Σ ok W typed below C tc tl x Cs sp)

pub found_run_is_refuted : FoundRunIsRefuted
found_run_is_refuted Σ ok W typed below ps goal tg tl ng r = other_run {Kept = ComesBy (AnswersEachHead Σ W below) goal} (λ D k l. l) split comes_itself r
  where
    split : (D : Case) (Ds : List Case) → ComesBy (AnswersEachHead Σ W below) goal D → FindsCandidate Σ W below ps D Ds → RefutesCandidate Σ W below ps D Ds × ((E : Case) → Member E Ds → ComesBy (AnswersEachHead Σ W below) goal E)
    split D Ds k (x, p, m, c, sp) =
        let i : IsInstanceOfGoal Σ W goal D = comes_as_instance Σ ok W typed below goal tg tl ng D k in
        let (td, ld) = instance_is_typed_case Σ ok W typed goal D tg tl ng i in
        let q : IsRefutedSplit Σ W below D x Ds = found_split_is_refuted Σ ok W typed below D td ld x Ds sp in
        ((x, p, m, c, q), λ E n. comes_by_split Ds k (x, q.answered) n)
