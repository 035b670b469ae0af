-- Worked: the split of plus X Y _ at X lists the case by z and then that by s, and no other list.
use Rattle.std.proofs.Common.{◌≡◌, ℕ, zero, suc, List, [], ◌∷◌, Option, inl, inr, refl, sym, ap, ◌∙◌, subst, arith}
use Rattle.std.specs.Prelude.{◌+◌, Some, None}
use Rattle.lf.specs.Syntax.{constant, metavariable, variable, Term, Spine, lambda, root, nil, app, base, LfType, pi, star, skeleton, weaken}
use Rattle.lf.specs.Eta.{eta_long}
use Rattle.lf.specs.AtOnce.{in_front}
use Rattle.lf.specs.Substitution.{Image, keep, put, substitute, substitute_image, reduce}
use Rattle.lf.specs.Typing.{HasType, SpineType}
use Rattle.lf.specs.Subordination.{Member}
use Rattle.lf_unification.specs.Dependency.{ListedMetavariable, free_context}
use Rattle.lf_unification.specs.OpenTyping.{skeletons_of}
use Rattle.lf_unification.specs.Solving.{Solved}
use Rattle.lf_unification.specs.Unifiers.{Store}
use Rattle.lf_cases.specs.Case.{Case, items_context}
use Rattle.lf_cases.specs.Missing.{put_in}
use Rattle.lf.specs.Worlds.{lift_over}
use Rattle.lf_totality.specs.Examples.{Addition, first_below_second, nat, plus_input_goal, plus_successor_case, plus_zero_case, var}
use Rattle.lf_numbered.specs.EntryConstants.{with_entries}
use Rattle.lf_coverage.specs.HeadOrder.{Offer}
use Rattle.lf_coverage.specs.Listed.{Listed, no_offer, with_case, without_case}
use Rattle.lf_numbered.specs.NumberedCalls.{ListsCases}
use Rattle.lf_numbered.specs.NumberedCallsOrder.{AreInNumberedOrder, HasNumberedRank, next_in_order, one_in_order, signature_rank}
use Rattle.lf_numbered.specs.NumberedCase.{NumberedCase}
use Rattle.lf_numbered.specs.NumberedInstance.{AreTypedValues, move_all, moved_constant}
use Rattle.lf_numbered.specs.NumberedSplits.{IsOfferTo, NumberedOffer, NumberedUnifierFinds, of_case}
use Rattle.lf_numbered.specs.Numbering.{numbered}
use Rattle.lf_numbered.specs.OnlyExamples.{ExchangedIsSame, IdleIsNotSame, ZeroComesFirst, successor_case, zero_case}
use Rattle.lf_numbered.specs.OnlyCase.{GivesBack}
use Rattle.lf_numbered.specs.OnlyList.{AreSameCases}
use Rattle.lf_numbered.specs.OwnStores.{as_case, numbered_store, offer_signature, solved_numbered}
use Rattle.lf_numbered.specs.OwnTerms.{own_terms}
use Rattle.lf_coverage.specs.SplitStore.{solved_case}
use Rattle.lf_coverage.specs.UnifiedSplit.{HeadIsAnswered, UnifierFinds}
use Rattle.lf_numbered.proofs.EntrySignature.{else_none}
use Rattle.lf_coverage.proofs.ExamplesUnified.{plus_listed, successor_found, zero_has_unifier}
use Rattle.lf_numbered.proofs.NumberedNeedsPlus.{plus_has_needs}
use Rattle.lf_numbered.proofs.OffersListed.{ConstantsAreIn, heads_are_in, offer_with, other_target}
use Rattle.lf_numbered.proofs.OnlyList.{split_has_one_list}
use Rattle.lf_coverage.proofs.Parts.{none_some, some_same}
use Rattle.lf_numbered.proofs.RanksListed.{signature_rank_in}
use Rattle.lf_coverage.proofs.SolvedCase.{free_context_is}
use mathlib.Core.Path.{fun_ext}

abbrev goal : NumberedCase
goal = numbered 4 plus_input_goal

-- The two heads.
abbrev zero_offer : NumberedOffer
zero_offer = offer_with goal 1 nat (constant 0) nil nat

abbrev successor_offer : NumberedOffer
successor_offer = offer_with goal 1 nat (constant 1) nil (pi nat nat)

abbrev offers : List NumberedOffer
offers = zero_offer ∷ successor_offer ∷ []

each : (o : NumberedOffer) → Member o offers → IsOfferTo Addition 4 [] goal 1 nat o
each o (inl e) = subst (IsOfferTo Addition 4 [] goal 1 nat) (sym e) (of_case (constant 0) nil nat (offer_signature 0 nat refl refl))
each o (inr (inl e)) = subst (IsOfferTo Addition 4 [] goal 1 nat) (sym e) (of_case (constant 1) nil (pi nat nat) (offer_signature 1 (pi nat nat) refl refl))
each o (inr (inr m)) = absurd m

constants : ConstantsAreIn Addition 4 goal 1 nat offers
constants zero V e t = subst (λ A. Member (offer_with goal 1 nat (constant 0) nil A) offers) (some_same e) (inl refl)
constants (suc zero) V e t = subst (λ A. Member (offer_with goal 1 nat (constant 1) nil A) offers) (some_same e) (inr (inl refl))
constants (suc (suc zero)) V e t = absurd (other_target e t refl)
constants (suc (suc (suc zero))) V e t = absurd (other_target e t refl)
constants (suc (suc (suc (suc k)))) V e t = absurd (none_some e)

every : (o : NumberedOffer) → IsOfferTo Addition 4 [] goal 1 nat o → Member o offers
every = heads_are_in Addition 4 goal 1 nat offers [] refl constants (λ c U V o e t. absurd (none_some o)) tt

abbrev ranks : List (List ℕ)
ranks = (0 ∷ 0 ∷ []) ∷ (0 ∷ 1 ∷ []) ∷ []

in_order : AreInNumberedOrder 4 [] goal offers ranks
in_order = next_in_order (signature_rank 0 refl refl) (inr (refl, inl (omega arith))) (one_in_order (signature_rank 1 refl refl))

every_rank : (o : NumberedOffer) (r : List ℕ) → Member o offers → HasNumberedRank 4 [] goal o r → Member r ranks
every_rank o r (inl e) h = signature_rank_in 4 [] goal o 0 e refl refl ranks (inl refl) r h
every_rank o r (inr (inl e)) h = signature_rank_in 4 [] goal o 1 e refl refl ranks (inr (inl refl)) r h
every_rank o r (inr (inr m)) h = absurd m

-- What unification finds for them without block variables it finds by number.
no_entries : with_entries Addition 4 [] ≡ Addition
no_entries = ap (λ t. record { types = t; kinds = Addition.kinds }) (fun_ext (λ c. else_none (Addition.types c)))

abbrev by_number : Case → NumberedCase
by_number E = record { blocks = []; variables = items_context E.items; given = E.given; local = E.local; family = E.family; arguments = E.arguments }

read_by_number : (k : ℕ) (after : Store) (order : List ListedMetavariable) (E : Case) → E ≡ solved_case (as_case goal) k after order → by_number E ≡ solved_numbered goal k after order
read_by_number k after order E e = ap by_number e ∙ ap (λ X. record { blocks = []; variables = X; given = (solved_numbered goal k after order).given; local = (solved_numbered goal k after order).local; family = 1; arguments = (solved_numbered goal k after order).arguments }) (free_context_is (free_context (skeletons_of after.metavariables) order))

zero_found : NumberedUnifierFinds Addition 4 first_below_second zero_offer star (Some zero_case)
zero_found = subst (λ Σ. (after : Store) × (s : Solved Σ (numbered_store first_below_second goal 1 nat (constant 0) nil nat star) after) × (zero_case ≡ solved_numbered goal 0 after s.well_formed.order)) (sym no_entries) (of_listed plus_listed)
  where
    of_listed : {h : Offer} → Listed (HeadIsAnswered Addition first_below_second plus_input_goal 1 nat) (record { items = plus_input_goal.items; moved = 0; head = constant 0; type = nat } ∷ h ∷ []) (plus_zero_case ∷ plus_successor_case ∷ []) → (after : Store) × (s : Solved Addition (numbered_store first_below_second goal 1 nat (constant 0) nil nat star) after) × (zero_case ≡ solved_numbered goal 0 after s.well_formed.order)
    of_listed (with_case a l) = let (after, s, e) = subst (λ K. UnifierFinds Addition first_below_second plus_input_goal 1 nat (record { items = plus_input_goal.items; moved = 0; head = constant 0; type = nat }) K (Some plus_zero_case)) (sym (some_same a.of_family)) a.finds in (after, s, read_by_number 0 after s.well_formed.order plus_zero_case e)
    of_listed (without_case a l) = absurd (zero_has_unifier (subst (λ K. UnifierFinds Addition first_below_second plus_input_goal 1 nat (record { items = plus_input_goal.items; moved = 0; head = constant 0; type = nat }) K None) (sym (some_same a.of_family)) a.finds))

successor_found_by_number : NumberedUnifierFinds Addition 4 first_below_second successor_offer star (Some successor_case)
successor_found_by_number = subst (λ Σ. (after : Store) × (s : Solved Σ (numbered_store first_below_second goal 1 nat (constant 1) nil (pi nat nat) star) after) × (successor_case ≡ solved_numbered goal 1 after s.well_formed.order)) (sym no_entries) (let (after, s, e) = successor_found in (after, s, read_by_number 1 after s.well_formed.order plus_successor_case e))

lists : ListsCases Addition 4 [] first_below_second goal 1 (zero_case ∷ successor_case ∷ [])
lists = record {
  unified = record {
    type = nat;
    at = (nat, refl, refl);
    offers = offers;
    each = each;
    every = every;
    listed = with_case (record { kind = star; of_family = refl; finds = zero_found }) (with_case (record { kind = star; of_family = refl; finds = successor_found_by_number }) no_offer);
  };
  ranks = ranks;
  in_order = in_order;
  every_rank = λ o r f h. every_rank o r (every o f) h;
}

-- Another list would have the same cases.
same : (Es : List NumberedCase) → ListsCases Addition 4 [] first_below_second goal 1 Es → AreSameCases Addition 4 (zero_case ∷ successor_case ∷ []) Es
same Es m = let n = plus_has_needs.0 in split_has_one_list Addition n.setting.signature [] n.setting.blocks 4 n.setting.free first_below_second goal n.case 1 (zero_case ∷ successor_case ∷ []) Es lists m

same_head : {c d : ℕ} {S T : Spine} {Ms Ns : List (Option Term)} → Some (root (constant c) S) ∷ Ms ≡ Some (root (constant d) T) ∷ Ns → c ≡ d
same_head e = cc

pub zero_comes_first : ZeroComesFirst
zero_comes_first = (
  lists,
  (λ m. let e = same_head (same (successor_case ∷ zero_case ∷ []) m).0.is_instance.arguments in omega (arith, e)),
  (λ m. (same (zero_case ∷ []) m).1),
  (λ m. (same (successor_case ∷ []) m).1),
)

-- Each variable is given back where the two are exchanged.
abbrev exchanged : ℕ → Image
exchanged = in_front (put (base 0) (var 1)) (in_front (put (base 0) (var 0)) (λ i. keep (i + 2)))

given_back : GivesBack (nat ∷ nat ∷ []) exchanged exchanged
given_back zero A e = subst (λ B. substitute_image exchanged (exchanged 0) ≡ put (skeleton B) (eta_long (skeleton B) (variable 0))) (sym e) refl
given_back (suc zero) A (B, g, e) = subst (λ D. substitute_image exchanged (exchanged 1) ≡ put (skeleton D) (eta_long (skeleton D) (variable 1))) (sym (e ∙ ap weaken g)) refl
given_back (suc (suc i)) A (B, (D, g, p), e) = absurd g

pub exchanged_is_same : ExchangedIsSame
exchanged_is_same = record {
  values = exchanged;
  back = exchanged;
  is_instance = record { is_instance = record { blocks = λ k b e. absurd (none_some e); values = (var 1, _, (var 0, (λ i. keep (i + 2)), refl, (nat, refl, refl), tt, refl), (nat, (nat, refl, refl), refl), tt, refl) }; family = refl; given = refl; local = refl; arguments = refl };
  has_instance = record { is_instance = record { blocks = λ k b e. absurd (none_some e); values = (var 1, _, (var 0, (λ i. keep (i + 2)), refl, (nat, refl, refl), tt, refl), (nat, (nat, refl, refl), refl), tt, refl) }; family = refl; given = refl; local = refl; arguments = refl };
  there_and_back = given_back;
  back_and_there = given_back;
}

-- No value gives back the variable that occurs nowhere: Y is the only variable of plus z Y _, and is given back itself.
abbrev over_y : List LfType
over_y = nat ∷ []

lost : (τ : ℕ → Image) (N : Term) → HasType (with_entries Addition 4 []) over_y N nat → substitute reduce (in_front (put (base 0) (var 0)) τ) N ≡ var 1 → ⊥
lost τ (lambda M) t e = cc
lost τ (root (constant c) S) t e = cc
lost τ (root (metavariable m) S) t e = cc
lost τ (root (variable zero) nil) t e = (let p : ◌≡◌ {A = ℕ} 0 1 = cc in omega (arith, p))
lost τ (root (variable zero) (app M S)) (A, g, s) e = absurd (subst (λ B. SpineType (with_entries Addition 4 []) over_y (app M S) B nat) g s)
lost τ (root (variable (suc i)) S) (A, (B, g, q), s) e = absurd g

second : {M N : Term} {a : Option Term} {b : Option Term} {Ms Ns : List (Option Term)} → ◌≡◌ {A = List (Option Term)} (a ∷ Some M ∷ Ms) (b ∷ Some N ∷ Ns) → M ≡ N
second e = cc

term_of : {M N : Term} → put (base 0) M ≡ put (base 0) N → M ≡ N
term_of e = cc

pub idle_is_not_same : IdleIsNotSame
idle_is_not_same s = by s.is_instance.is_instance.values s.has_instance.is_instance.values
  where
    by : AreTypedValues (with_entries Addition 4 []) over_y (own_terms 4 []) (moved_constant 4 [] [] (λ k. k)) (nat ∷ nat ∷ []) s.values → AreTypedValues (with_entries Addition 4 []) (nat ∷ nat ∷ []) (own_terms 4 []) (moved_constant 4 [] [] (λ k. k)) over_y s.back → ⊥
    by (M, υ, (N, κ, tail, n, o, q), m, p, r) (L, τ, rest, l, i, b) =
        let y : var 0 ≡ L = second (s.has_instance.arguments ∙ ap (λ f. put_in (lift_over [] f) (move_all (moved_constant 4 [] [] (λ k. k)) zero_case.arguments)) b) in
        let v : s.values 1 ≡ put (base 0) N = ap (λ f. f 1) r ∙ ap (λ f. f 0) q in
        let w : put (base 0) (substitute reduce s.back N) ≡ put (base 0) (var 1) = sym (ap (substitute_image s.back) v) ∙ s.there_and_back 1 nat (nat, refl, refl) in
        lost τ N n (ap (λ K. substitute reduce (in_front (put (base 0) K) τ) N) y ∙ ap (λ f. substitute reduce f N) (sym b) ∙ term_of w)
