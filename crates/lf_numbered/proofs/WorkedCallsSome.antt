-- The worked run in a world whose block has a `some` variable.
use Rattle.std.proofs.Common.{◌≡◌, ℕ, zero, suc, List, [], ◌∷◌, inl, inr, refl, sym, subst, arith}
use Rattle.std.specs.Prelude.{Bool, true, Some}
use Rattle.lf.specs.Syntax.{constant, Kind, root, nil, app, LfType, arrow, base, kind_pi, pi, star}
use Rattle.lf.specs.AtOnce.{in_front}
use Rattle.lf.specs.Substitution.{Image, keep, put}
use Rattle.lf.specs.Typing.{Signature, IsKind, IsTypedSubstitution, IsSignature}
use Rattle.lf.specs.Variables.{FamiliesIn, KindFamiliesIn, target}
use Rattle.lf.specs.Subordination.{Block, AreTypedBlocks, IsDeclared, IsTypedBlock, Member, SelfContained}
use Rattle.lf_checks.specs.Clause.{from_entry}
use Rattle.lf_cases.specs.Cover.{before}
use Rattle.lf_cases.specs.Split.{at_leaf, by_split, next_case, no_case}
use Rattle.lf_unification.specs.Solving.{IsWellFormed}
use Rattle.lf_unification.specs.Unifiers.{Store}
use Rattle.lf_totality.specs.Examples.{exp, var}
use Rattle.lf_coverage.specs.Calls.{PlacesIn}
use Rattle.lf_coverage.specs.Heads.{ArgumentsAreBelow}
use Rattle.lf_coverage.specs.Listed.{Listed, with_case, no_offer}
use Rattle.lf_coverage.proofs.ConstantOnNew.{on_new_is_solved, on_new_store}
use Rattle.lf_coverage.proofs.Leaves.{head_is_typed}
use Rattle.lf_coverage.proofs.Parts.{none_some, some_same}
use Rattle.lf_numbered.specs.EntryConstants.{IsFreeFrom, with_entries}
use Rattle.lf_numbered.specs.EntryPatterns.{IsInstanceOfPattern, variable_images}
use Rattle.lf_numbered.specs.EntryPatternsRuns.{IsNumberedLeaf}
use Rattle.lf_numbered.specs.EntryTerms.{MatchesByNumber}
use Rattle.lf_numbered.specs.NewBlock.{with_new_block}
use Rattle.lf_numbered.specs.NumberedCallsOrder.{HasNumberedRank, entry_rank, one_in_order}
use Rattle.lf_numbered.specs.NumberedCase.{NumberedCase}
use Rattle.lf_numbered.specs.NumberedSplits.{IsAnsweredByNumber, IsOfferTo, NumberedAnswer, NumberedOffer, NumberedUnifierFinds, of_new_block}
use Rattle.lf_numbered.specs.OwnStores.{IsNumberedOffer, numbered_store, offer_entry}
use Rattle.lf_numbered.specs.OwnTerms.{own_terms}
use Rattle.lf_numbered.specs.WorkedCallsSome.{SomeTermIsNoHindrance, Typed, exp_and_q, q_entry, q_goal, tp, typed_block, typed_kinds, typed_worlds, v_clause, v_head}
use Rattle.lf_numbered.specs.TypedNumbered.{IsTypedNumberedCase}
use Rattle.lf_numbered.proofs.EntrySignature.{with_entries_is_signature}
use Rattle.lf_numbered.proofs.EntryTermsDecided.{numbered_head_is_decided}
use Rattle.lf_numbered.proofs.FreeFrom.{free_from}
use Rattle.lf_numbered.proofs.NumberedCallsLaws.{answered_by_number_is_covered, answered_by_number_is_split_answer}
use Rattle.lf_numbered.proofs.OffersListed.{NewEntriesAreIn, entry_member, heads_are_in, other_target}
use Rattle.lf_numbered.proofs.OwnStoresNewBlock.{new_block_stays_typed}
use Rattle.lf_numbered.proofs.OwnStoresStart.{numbered_store_is_ready}
use Rattle.lf_numbered.proofs.RanksListed.{only_entry_rank_in}
use Rattle.lf_numbered.proofs.VariableTyped.{value_is_typed, variable_is_typed, variable_on_own}
use Rattle.lf_numbered.proofs.WorkedCallsStuck.{no_truth}

ok : IsSignature Typed
ok = record { types_ok = λ c A e. absurd (none_some e); kinds_ok = kinds }
  where
    kinds : (f : ℕ) (K : Kind) → typed_kinds f ≡ Some K → IsKind Typed [] K
    kinds zero K e = subst (IsKind Typed []) (some_same e) tt
    kinds (suc zero) K e = subst (IsKind Typed []) (some_same e) tt
    kinds (suc (suc zero)) K e = subst (IsKind Typed []) (some_same e) ((star, refl, tt), tt)
    kinds (suc (suc (suc f))) K e = absurd (none_some e)

blocks : AreTypedBlocks Typed typed_worlds
blocks B (inl e) = subst (IsTypedBlock Typed) (sym e) (((tt, (star, refl, tt)), (star, refl, tt)), (_, refl, ((exp, refl, refl), tt)))
blocks B (inr m) = absurd m

free : IsFreeFrom Typed 3
free = free_from Typed 3 (λ c. refl) (λ a. refl)

goal_typed : IsTypedNumberedCase Typed 3 typed_worlds q_goal
goal_typed = variable_is_typed Typed 3 typed_worlds 0 2 refl [] tt

-- b.x on a new variable T is the one head.
abbrev new_case : NumberedCase
new_case = with_new_block typed_block q_goal

abbrev the_offer : NumberedOffer
the_offer = record { case = new_case; variable = 1; type = exp; head = constant 3; terms = app (var 0) nil; left = exp }

abbrev offers : List NumberedOffer
offers = the_offer ∷ []

x_offered : IsNumberedOffer Typed 3 new_case exp (constant 3) (app (var 0) nil) exp
x_offered = offer_entry 3 (app (var 0) nil) _ refl refl refl

each : (o : NumberedOffer) → Member o offers → IsOfferTo Typed 3 typed_worlds q_goal 0 exp o
each o (inl e) = subst (IsOfferTo Typed 3 typed_worlds q_goal 0 exp) (sym e) (of_new_block typed_block 3 (app (var 0) nil) exp (inl refl) refl x_offered)
each o (inr m) = absurd m

new_entries : NewEntriesAreIn Typed 3 q_goal 0 exp offers typed_block
new_entries zero U V n o e t = absurd (none_some o)
new_entries (suc zero) U V n o e t = absurd (none_some o)
new_entries (suc (suc zero)) U V n o e t = absurd (none_some o)
new_entries (suc (suc (suc zero))) U V n o e t = entry_member new_case 1 exp offers 3 _ U _ V o e (inl refl)
new_entries (suc (suc (suc (suc zero)))) U V n o e t = absurd (other_target e t refl)
new_entries (suc (suc (suc (suc (suc c))))) U V n o e t = absurd (none_some o)

every : (o : NumberedOffer) → IsOfferTo Typed 3 typed_worlds q_goal 0 exp o → Member o offers
every = heads_are_in Typed 3 q_goal 0 exp offers typed_worlds refl (λ k V s t. absurd (none_some s)) (λ c V B p e t. absurd (none_some p)) (new_entries, tt)

every_rank : (o : NumberedOffer) (r : List ℕ) → Member o offers → HasNumberedRank 3 typed_worlds q_goal o r → Member r ((1 ∷ 0 ∷ 0 ∷ 0 ∷ []) ∷ [])
every_rank o r (inl e) h = only_entry_rank_in 3 typed_block q_goal o 3 _ e refl refl ((1 ∷ 0 ∷ 0 ∷ 0 ∷ []) ∷ []) (inl refl) r h
every_rank o r (inr m) h = absurd m

-- E = b.x T is solved: T is free.
abbrev Entries : Signature
Entries = with_entries Typed 3 typed_worlds

entries_ok : IsSignature Entries
entries_ok = with_entries_is_signature Typed ok 3 free typed_worlds blocks

module _ (below : ℕ → ℕ → Bool) where
  abbrev store : Store
  store = numbered_store below new_case 1 exp (constant 3) (app (var 0) nil) exp star

  ready : IsWellFormed Entries store
  ready = numbered_store_is_ready Typed ok typed_worlds blocks 3 free below new_case (new_block_stays_typed Typed ok typed_worlds blocks 3 free q_goal goal_typed typed_block (inl refl)) 1 exp (exp, refl, refl) (constant 3) (app (var 0) nil) exp x_offered star refl

  x_found : NumberedUnifierFinds Typed 3 below the_offer star (Some q_entry)
  x_found = (on_new_store Entries entries_ok 0 1 3 refl refl refl, on_new_is_solved Entries entries_ok 0 1 3 refl refl refl ready, refl)

goal_listed : (below : ℕ → ℕ → Bool) → Listed (NumberedAnswer Typed 3 below) offers (q_entry ∷ [])
goal_listed below = with_case (record { kind = star; of_family = refl; finds = x_found below }) no_offer

-- q b.x is an instance of v.
abbrev on_variable : ℕ → Image
on_variable = in_front (put (base 1) (var 0)) keep

on_variable_typed : IsTypedSubstitution Entries (tp ∷ []) (tp ∷ []) on_variable
on_variable_typed = value_is_typed Entries tp (tp ∷ []) on_variable (refl, (tp, refl, refl))

entry_typed : IsTypedNumberedCase Typed 3 typed_worlds q_entry
entry_typed = record {
  variables = record { variables = (tt, (star, refl, tt)); on_own_terms = variable_on_own (own_terms 3 q_entry.blocks) 1; blocks = (inl refl, (on_variable, on_variable_typed, refl), (tt, tt), tt) };
  local = (tt, (star, refl, tt));
  local_on_own = tt;
  given = tt;
  given_on_own = tt;
  arguments = ((base 0, (arrow (base 1) (base 0), refl, ((base 1, refl, refl), refl))), tt);
  arguments_on_own = (((nil, refl), (tt, tt)), tt);
}

abbrev outer : ℕ → Image
outer = before [] (variable_images 3 q_entry.blocks 0 typed_block (app (var 0) nil))

entry_match : MatchesByNumber 3 q_entry v_head
entry_match = (outer, (0, app (var 0) nil, refl, (λ e. absurd cc), refl), (((refl, tt), tt), (λ i o u. no_truth (sym o)), (refl, tt)))

entry_instance : IsInstanceOfPattern Typed 3 q_entry v_head
entry_instance = (numbered_head_is_decided Typed ok typed_worlds blocks 3 free q_entry entry_typed v_clause (from_entry typed_block [] _ (exp ∷ []) (inl refl) refl) refl refl (kind_pi exp star) refl (tt, tt) (app (root (constant 3) (app (var 0) nil)) nil) (refl, tt) ((pi tp exp, refl, ((tp, refl, refl), refl)), tt)).0.1 entry_match

entry_leaf : IsNumberedLeaf Typed 3 typed_worlds (v_head ∷ []) q_entry
entry_leaf = record { typed = entry_typed; pattern = v_head; listed = inl refl; pattern_typed = head_is_typed Typed ok typed_worlds blocks v_clause (from_entry typed_block [] _ (exp ∷ []) (inl refl) refl); same_length = refl; given_own = λ i e. absurd cc; is_instance = entry_instance }

answered : (below : ℕ → ℕ → Bool) → IsAnsweredByNumber Typed 3 typed_worlds below q_goal 0 (q_entry ∷ [])
answered below = record { type = exp; at = refl; takes_below = tt; offers = offers; each = each; every = every; arguments_below = λ o f. among o (every o f); listed = goal_listed below }
  where
    among : (o : NumberedOffer) → Member o offers → ArgumentsAreBelow below o.left
    among o (inl e) = subst (λ (p : NumberedOffer). ArgumentsAreBelow below p.left) (sym e) tt
    among o (inr m) = absurd m

self_contained : SelfContained Typed typed_worlds exp_and_q
self_contained = record { declared = declared; kinds_in = kinds_in; types_in = λ c A e s. absurd (none_some e); entries_in = entries_in }
  where
    declared : (f : ℕ) → exp_and_q f ≡ true → IsDeclared Typed f
    declared zero e = (star, refl)
    declared (suc zero) e = absurd (no_truth e)
    declared (suc (suc zero)) e = (kind_pi exp star, refl)
    declared (suc (suc (suc f))) e = absurd (no_truth e)

    kinds_in : (f : ℕ) (K : Kind) → Typed.kinds f ≡ Some K → exp_and_q f ≡ true → KindFamiliesIn exp_and_q K
    kinds_in zero K e s = subst (KindFamiliesIn exp_and_q) (some_same e) tt
    kinds_in (suc zero) K e s = absurd (no_truth s)
    kinds_in (suc (suc zero)) K e s = subst (KindFamiliesIn exp_and_q) (some_same e) (refl, tt)
    kinds_in (suc (suc (suc f))) K e s = absurd (no_truth s)

    among : (E : LfType) → Member E typed_block.entries → FamiliesIn exp_and_q E
    among E (inl e) = subst (FamiliesIn exp_and_q) (sym e) refl
    among E (inr (inl e)) = subst (FamiliesIn exp_and_q) (sym e) refl
    among E (inr (inr m)) = absurd m

    entries_in : (B : Block) (E : LfType) → Member B typed_worlds → Member E B.entries → exp_and_q (target E) ≡ true → FamiliesIn exp_and_q E
    entries_in B E (inl e) n s = among E (subst (λ (D : Block). Member E D.entries) e n)
    entries_in B E (inr m) n s = absurd m

pub some_term_is_no_hindrance : SomeTermIsNoHindrance
unfolding answered
some_term_is_no_hindrance below s = (
  answered_by_number_is_split_answer Typed ok typed_worlds blocks below s 3 free q_goal goal_typed 0 (q_entry ∷ []) (record {
    unified = record { type = exp; at = refl; offers = offers; each = each; every = every; listed = goal_listed below };
    ranks = (1 ∷ 0 ∷ 0 ∷ 0 ∷ []) ∷ [];
    in_order = one_in_order (entry_rank 3 0 _ refl refl refl);
    every_rank = λ o r f h. every_rank o r (every o f) h;
  }),
  entry_instance,
  answered_by_number_is_covered Typed ok typed_worlds blocks below s 3 free (v_head ∷ []) q_goal goal_typed (omega arith) (by_split (q_entry ∷ []) (0, answered below, λ S b. (subst (PlacesIn S (true ∷ [])) (sym (some_same b.of_family)) b.places).0) (next_case (at_leaf entry_leaf) no_case)),
  record { self_contained = self_contained; kind = kind_pi exp star; of_family = refl; places = (refl, tt); locals = tt },
)
