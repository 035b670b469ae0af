-- Worked: a number beside a proof that a set of families doesn't hold; and what is refuted.
use Rattle.std.proofs.Common.{◌≡◌, ℕ, zero, suc, List, [], ◌∷◌, ◌<◌, inl, inr, refl, sym, ap, subst, arith, true≢false}
use Rattle.std.specs.Prelude.{false, Option, None, Some}
use Rattle.lf.specs.Syntax.{Head, constant, metavariable, root, nil, LfType, Kind, pi, base, star}
use Rattle.lf.specs.Variables.{same_number, target}
use Rattle.lf.specs.Subordination.{Member, AreTypedBlocks}
use Rattle.lf_unification.specs.Dependency.{IsListed}
use Rattle.lf_unification.specs.OpenTyping.{MetavariablesInType, OpenIsType, OpenHasType}
use Rattle.lf_unification.specs.Outside.{Avoids, Holds}
use Rattle.lf_unification.specs.PartialInstance.{IsFilling}
use Rattle.lf_unification.specs.Solving.{IsWellFormed, Never, Solved}
use Rattle.lf_unification.specs.Steps.{CanRefute, Run, bind, constants_differ, next_equation, no_step, then_run}
use Rattle.lf_unification.specs.Unifiers.{Store, on_left}
use Rattle.lf_unification.proofs.Runs.{run_refuted, run_solved}
use Rattle.lf_unification.proofs.Solving.{solved_not_never}
use Rattle.lf_cases.specs.Case.{Item, free_variable, Case, items_context}
use Rattle.lf_cases.specs.Reached.{SplitHead, constant_head, bound_head, entry_head, new_entry_head}
use Rattle.lf_totality.specs.Examples.{Addition, addition_types, nat, z, successor, on_three, first_below_second, plus_kind, plus_input_goal, plus_zero_case, plus_successor_case}
use Rattle.lf_totality.proofs.Addition.{addition_ok}
use Rattle.lf_cases.specs.Split.{at_leaf, by_split, next_case, no_case}
use Rattle.lf_coverage.specs.ExamplesMatching.{plus_z_head}
use Rattle.lf_coverage.specs.ExamplesRefuted.{KeptIsSplit, KeptIsWithin, PlusRunIsAtCandidate, SuccessorIsRefuted, kept_case, kept_items, kept_zero_case, kept_successor_case}
use Rattle.lf_coverage.specs.HeadOrder.{Offer, AreInOrder, constant_rank, next_offered, one_offered}
use Rattle.lf_coverage.specs.Heads.{AreOffers, IsTypedCase}
use Rattle.lf_coverage.specs.Listed.{no_offer, with_case}
use Rattle.lf_coverage.specs.RefutedSplits.{IsRefutedSplit}
use Rattle.lf_coverage.specs.SplitStore.{context_metavariables, split_store}
use Rattle.lf_coverage.specs.UnifiedSplit.{IsAnsweredSplit}
use Rattle.lf_coverage.proofs.Examples.{plus_offers, plus_are_offers, plus_in_order}
use Rattle.lf_coverage.proofs.ExamplesLeaves.{zero_leaf, successor_leaf}
use Rattle.lf_coverage.proofs.ExamplesSubordinate.{addition_is_tested}
use Rattle.lf_coverage.proofs.ExamplesUnified.{no_argument, plus_listed, successor_has_unifier, zero_has_unifier}
use Rattle.lf_coverage.proofs.Parts.{none_some, some_same}
use Rattle.lf_coverage.proofs.RefutedSplits.{refuted_split_is_answer}
use Rattle.lf_coverage.proofs.SplitReady.{split_ready}

some_type : {A B : LfType} → Some A ≡ Some B → A ≡ B
some_type e = cc

no_blocks : AreTypedBlocks Addition []
no_blocks B m = absurd m

kept_typed : IsTypedCase Addition [] kept_case
kept_typed = record {
  items = ((tt, (plus_kind, refl, ((nat, refl, refl), ((nat, refl, refl), ((nat, refl, refl), tt))))), (star, refl, tt));
  given = ((base 1, (base 1, refl, refl)), tt);
  arguments = ((base 0, (base 0, refl, refl)), tt);
}

-- the heads of N are z and s
each_kept : (P : (I : List Item) (n : ℕ) (h : Head) (A : LfType) → Type 0) → P kept_items 0 (constant 0) nat → P kept_items 0 (constant 1) (pi nat nat) → (I : List Item) (n : ℕ) (h : Head) (A : LfType) → SplitHead Addition [] kept_items nat I n h A → P I n h A
each_kept P a b I n h A (constant_head k U e t) = by k U e t
  where
    apart : {m n : ℕ} → m ≡ suc n → m ≡ zero → ⊥
    apart p q = omega arith

    by : (k : ℕ) (U : LfType) → addition_types k ≡ Some U → target U ≡ 0 → P kept_items 0 (constant k) U
    by zero U e t = subst (P kept_items 0 (constant 0)) (some_type e) a
    by (suc zero) U e t = subst (P kept_items 0 (constant 1)) (some_type e) b
    by (suc (suc zero)) U e t = absurd (apart (sym (ap target (some_type e))) t)
    by (suc (suc (suc zero))) U e t = absurd (apart (sym (ap target (some_type e))) t)
    by (suc (suc (suc (suc k)))) U e t = absurd cc
each_kept P a b I n h A (bound_head j B l g t) = absurd (none l)
  where
    none : {j : ℕ} → j < zero → ⊥
    none l = omega arith
each_kept P a b I n h A (entry_head zero B g f t) = absurd (true≢false f)
each_kept P a b I n h A (entry_head (suc zero) B g f t) = absurd (true≢false f)
each_kept P a b I n h A (entry_head (suc (suc j)) B (C, (D, g, r), r') f t) = absurd g
each_kept P a b I n h A (new_entry_head B j C m l g t) = absurd m

abbrev kept_offers : List Offer
kept_offers = record { items = kept_items; moved = 0; head = constant 0; type = nat } ∷ record { items = kept_items; moved = 0; head = constant 1; type = pi nat nat } ∷ []

kept_are_offers : AreOffers Addition [] kept_items nat kept_offers
kept_are_offers = record {
  each = each;
  every = each_kept (λ I n h A. Member (record { items = I; moved = n; head = h; type = A }) kept_offers) (inl refl) (inr (inl refl));
}
  where
    each : (h : Offer) → Member h kept_offers → SplitHead Addition [] kept_items nat h.items h.moved h.head h.type
    each h (inl e) = subst (λ k. SplitHead Addition [] kept_items nat k.items k.moved k.head k.type) (sym e) (constant_head 0 nat refl refl)
    each h (inr (inl e)) = subst (λ k. SplitHead Addition [] kept_items nat k.items k.moved k.head k.type) (sym e) (constant_head 1 (pi nat nat) refl refl)
    each h (inr (inr e)) = absurd e

kept_in_order : AreInOrder [] kept_items nat kept_offers
kept_in_order = next_offered (0 ∷ 0 ∷ []) (0 ∷ 1 ∷ []) (constant_rank 0 nat) (constant_rank 1 (pi nat nat)) (inr (refl, inl (omega arith))) (one_offered (0 ∷ 1 ∷ []) (constant_rank 1 (pi nat nat)))

-- N = z, and N = s N'
abbrev kept_zero : Store
kept_zero = split_store first_below_second 0 nat kept_items 0 (constant 0) nat star

abbrev kept_zero_after : Store
kept_zero_after = record { metavariables = context_metavariables (items_context kept_items); bindings = record { of = 0; value = z } ∷ []; equations = [] }

kept_zero_run : Run Addition kept_zero kept_zero_after
kept_zero_run = then_run (bind {A = nat} on_left [] 0 [] z nat refl tt no_argument (record { inverted = record { inversion = z; is = refl }; reached = λ k. false; avoids = ((λ k A v e. absurd v), tt, λ v. v); within = tt })) no_step

kept_zero_ready : IsWellFormed Addition kept_zero
kept_zero_ready = split_ready Addition addition_ok [] no_blocks first_below_second kept_items kept_typed.items 0 nat refl kept_items 0 (constant 0) nat (constant_head 0 nat refl refl) star refl

abbrev kept_zero_solved : Solved Addition kept_zero kept_zero_after
kept_zero_solved = run_solved Addition addition_ok kept_zero_ready kept_zero_run refl

abbrev kept_successor : Store
kept_successor = split_store first_below_second 0 nat kept_items 0 (constant 1) (pi nat nat) star

abbrev kept_types : ℕ → Option LfType
kept_types = context_metavariables (items_context (free_variable nat ∷ kept_items))

abbrev kept_successor_after : Store
kept_successor_after = record { metavariables = kept_types; bindings = record { of = 1; value = successor (root (metavariable 0) nil) } ∷ []; equations = [] }

only_new : Avoids kept_types [] 1 (λ k. Holds (same_number 0 k))
only_new = (each, tt, λ v. v)
  where
    each : (k : ℕ) (A : LfType) → Holds (same_number 0 k) → kept_types k ≡ Some A → MetavariablesInType (λ k. Holds (same_number 0 k)) A
    each zero A v e = subst (MetavariablesInType (λ k. Holds (same_number 0 k))) (some_type e) tt
    each (suc k) A v e = absurd v

kept_successor_run : Run Addition kept_successor kept_successor_after
kept_successor_run = then_run (bind {A = nat} on_left [] 1 [] (successor (root (metavariable 0) nil)) nat refl tt no_argument (record { inverted = record { inversion = successor (root (metavariable 0) nil); is = refl }; reached = λ k. same_number 0 k; avoids = only_new; within = ((tt, tt), tt) })) no_step

abbrev kept_successor_solved : Solved Addition kept_successor kept_successor_after
kept_successor_solved = run_solved Addition addition_ok (split_ready Addition addition_ok [] no_blocks first_below_second kept_items kept_typed.items 0 nat refl kept_items 0 (constant 1) (pi nat nat) (constant_head 1 (pi nat nat) refl refl) star refl) kept_successor_run refl

-- the type of V
abbrev sum : LfType
sum = on_three 1 z z z

-- in an order of dependency V stands last, and N first
abbrev kept_zero_formed : IsWellFormed Addition kept_zero_after
kept_zero_formed = record {
  order = record { of = 0; of_type = nat; value = Some z } ∷ record { of = 1; of_type = sum; value = None } ∷ [];
  is_order = ((tt, refl, (λ h. h), (tt, (tt, (tt, tt))), declared 1 sum refl, (λ ρ. refl), tt), refl, no_zero, tt, declared 0 nat refl, (λ ρ. refl), (tt, value, λ ρ. refl));
  all_listed = all_listed;
  bindings_listed = ((nat, inl refl), tt);
  values_bound = ((λ N e. inl (ap (λ X. record { of = 0; value = X }) (sym (some_same e)))), ((λ N e. absurd (none_some e)), tt));
  typed = kept_zero_solved.well_formed.typed;
}
  where
    declared : (m : ℕ) (A : LfType) → context_metavariables (items_context kept_items) m ≡ Some A → OpenIsType Addition [] (context_metavariables (items_context kept_items)) (IsFilling Addition [] kept_zero_after) [] A
    declared = kept_zero_solved.well_formed.typed.declarations_typed.metavariables_typed

    value : OpenHasType Addition [] (context_metavariables (items_context kept_items)) (IsFilling Addition [] kept_zero_after) [] z nat
    value = let (A, e, t) = kept_zero_solved.well_formed.typed.bindings_typed.0 in subst (OpenHasType Addition [] (context_metavariables (items_context kept_items)) (IsFilling Addition [] kept_zero_after) [] z) (some_type (sym e)) t

    no_zero : IsListed (record { of = 1; of_type = sum; value = None } ∷ []) 0 → ⊥
    no_zero (inl e) = omega arith
    no_zero (inr h) = h

    all_listed : (m : ℕ) (A : LfType) → context_metavariables (items_context kept_items) m ≡ Some A → IsListed (record { of = 0; of_type = nat; value = Some z } ∷ record { of = 1; of_type = sum; value = None } ∷ []) m
    all_listed zero A e = inl refl
    all_listed (suc zero) A e = inr (inl refl)
    all_listed (suc (suc m)) A e = absurd (none_some e)

abbrev kept_successor_formed : IsWellFormed Addition kept_successor_after
kept_successor_formed = record {
  order = record { of = 1; of_type = nat; value = Some (successor (root (metavariable 0) nil)) } ∷ record { of = 0; of_type = nat; value = None } ∷ record { of = 2; of_type = sum; value = None } ∷ [];
  is_order = (((tt, refl, (λ h. h), (tt, (tt, (tt, tt))), declared 2 sum refl, (λ ρ. refl), tt), refl, no_zero, tt, declared 0 nat refl, (λ ρ. refl), tt), refl, no_one, tt, declared 1 nat refl, (λ ρ. refl), (((inl refl, tt), tt), value, λ ρ. refl));
  all_listed = all_listed;
  bindings_listed = ((nat, inl refl), tt);
  values_bound = ((λ N e. inl (ap (λ X. record { of = 1; value = X }) (sym (some_same e)))), ((λ N e. absurd (none_some e)), ((λ N e. absurd (none_some e)), tt)));
  typed = kept_successor_solved.well_formed.typed;
}
  where
    declared : (m : ℕ) (A : LfType) → kept_types m ≡ Some A → OpenIsType Addition [] kept_types (IsFilling Addition [] kept_successor_after) [] A
    declared = kept_successor_solved.well_formed.typed.declarations_typed.metavariables_typed

    value : OpenHasType Addition [] kept_types (IsFilling Addition [] kept_successor_after) [] (successor (root (metavariable 0) nil)) nat
    value = let (A, e, t) = kept_successor_solved.well_formed.typed.bindings_typed.0 in subst (OpenHasType Addition [] kept_types (IsFilling Addition [] kept_successor_after) [] (successor (root (metavariable 0) nil))) (some_type (sym e)) t

    no_zero : IsListed (record { of = 2; of_type = sum; value = None } ∷ []) 0 → ⊥
    no_zero (inl e) = omega arith
    no_zero (inr h) = h

    no_one : IsListed (record { of = 0; of_type = nat; value = None } ∷ record { of = 2; of_type = sum; value = None } ∷ []) 1 → ⊥
    no_one (inl e) = omega arith
    no_one (inr (inl e)) = omega arith
    no_one (inr (inr h)) = h

    all_listed : (m : ℕ) (A : LfType) → kept_types m ≡ Some A → IsListed (record { of = 1; of_type = nat; value = Some (successor (root (metavariable 0) nil)) } ∷ record { of = 0; of_type = nat; value = None } ∷ record { of = 2; of_type = sum; value = None } ∷ []) m
    all_listed zero A e = inr (inl refl)
    all_listed (suc zero) A e = inl refl
    all_listed (suc (suc zero)) A e = inr (inr (inl refl))
    all_listed (suc (suc (suc m))) A e = absurd (none_some e)

abbrev kept_zero_found : Solved Addition kept_zero kept_zero_after
kept_zero_found = record { run = kept_zero_run; keeps = kept_zero_solved.keeps; well_formed = kept_zero_formed; none_left = refl }

abbrev kept_successor_found : Solved Addition kept_successor kept_successor_after
kept_successor_found = record { run = kept_successor_run; keeps = kept_successor_solved.keeps; well_formed = kept_successor_formed; none_left = refl }

abbrev kept_cases : List Case
kept_cases = kept_zero_case ∷ kept_successor_case ∷ []

abbrev kept_answered : IsAnsweredSplit Addition [] first_below_second kept_case 0 kept_cases
kept_answered = record {
  type = nat;
  at = refl;
  is_free = refl;
  offers = kept_offers;
  are_offers = kept_are_offers;
  in_order = kept_in_order;
  listed = with_case (record { kind = star; of_family = refl; no_block = tt; finds = (kept_zero_after, kept_zero_found, refl) }) (with_case (record { kind = star; of_family = refl; no_block = tt; finds = (kept_successor_after, kept_successor_found, refl) }) no_offer);
}

some_kind : {A B : Kind} → Some A ≡ Some B → A ≡ B
some_kind e = cc

kept_refuted : IsRefutedSplit Addition [] first_below_second kept_case 0 kept_cases
kept_refuted = record { answered = kept_answered; refuted = refuted }
  where
    refuted : (h : Offer) → Member h kept_offers → (K : Kind) → Some star ≡ Some K → Never Addition [] (split_store first_below_second 0 nat h.items h.moved h.head h.type K) → CanRefute Addition (split_store first_below_second 0 nat h.items h.moved h.head h.type K)
    refuted h (inl e) K k n = absurd (solved_not_never Addition addition_ok kept_zero kept_zero_after kept_zero_solved (subst (λ g. Never Addition [] (split_store first_below_second 0 nat g.items g.moved g.head g.type star)) e (subst (λ L. Never Addition [] (split_store first_below_second 0 nat h.items h.moved h.head h.type L)) (sym (some_kind k)) n)))
    refuted h (inr (inl e)) K k n = absurd (solved_not_never Addition addition_ok kept_successor kept_successor_after kept_successor_solved (subst (λ g. Never Addition [] (split_store first_below_second 0 nat g.items g.moved g.head g.type star)) e (subst (λ L. Never Addition [] (split_store first_below_second 0 nat h.items h.moved h.head h.type L)) (sym (some_kind k)) n)))
    refuted h (inr (inr e)) K k n = absurd e

pub kept_is_split : KeptIsSplit
kept_is_split = (kept_refuted, refuted_split_is_answer Addition addition_ok [] no_blocks first_below_second addition_is_tested kept_case kept_typed (tt, (tt, tt)) 0 kept_cases kept_refuted, refl, (λ h. true≢false (sym h.1.0)))

pub successor_is_refuted : SuccessorIsRefuted
successor_is_refuted = (record { reached = _; run = then_run (next_equation (_ ∷ []) _ []) no_step; refuted = constants_differ apart }, zero_is_solved)
  where
    apart : 1 ≡ zero → ⊥
    apart e = omega arith

    zero_is_solved : CanRefute Addition kept_zero → ⊥
    zero_is_solved d = solved_not_never Addition addition_ok kept_zero kept_zero_after kept_zero_solved (run_refuted Addition addition_ok kept_zero_ready d.run d.refuted)

pub plus_refuted : IsRefutedSplit Addition [] first_below_second plus_input_goal 1 (plus_zero_case ∷ plus_successor_case ∷ [])
plus_refuted = record { answered = record { type = nat; at = (nat, refl, refl); is_free = refl; offers = plus_offers; are_offers = plus_are_offers; in_order = plus_in_order; listed = plus_listed }; refuted = refuted }
  where
    refuted : (h : Offer) → Member h plus_offers → (K : Kind) → Some star ≡ Some K → Never Addition [] (split_store first_below_second 1 nat h.items h.moved h.head h.type K) → CanRefute Addition (split_store first_below_second 1 nat h.items h.moved h.head h.type K)
    refuted h (inl e) K k n = absurd (zero_has_unifier (subst (λ g. Never Addition [] (split_store first_below_second 1 nat g.items g.moved g.head g.type star)) e (subst (λ L. Never Addition [] (split_store first_below_second 1 nat h.items h.moved h.head h.type L)) (sym (some_kind k)) n)))
    refuted h (inr (inl e)) K k n = absurd (successor_has_unifier (subst (λ g. Never Addition [] (split_store first_below_second 1 nat g.items g.moved g.head g.type star)) e (subst (λ L. Never Addition [] (split_store first_below_second 1 nat h.items h.moved h.head h.type L)) (sym (some_kind k)) n)))
    refuted h (inr (inr e)) K k n = absurd e

pub plus_run_is_at_candidate : PlusRunIsAtCandidate
plus_run_is_at_candidate = (refl, by_split (plus_zero_case ∷ plus_successor_case ∷ []) (1, plus_z_head, inl refl, inl refl, plus_refuted) (next_case (at_leaf zero_leaf) (next_case (at_leaf successor_leaf) no_case)))

pub kept_is_within : KeptIsWithin
kept_is_within = (refl, (tt, (tt, tt)), (λ h. true≢false (sym h.0.0)))
