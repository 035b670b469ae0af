-- The second split of the worked run with candidates: by two constants, and by the entry of a newer block variable.
use Rattle.std.proofs.Common.{◌≡◌, ℕ, zero, suc, List, [], ◌∷◌, length, inl, inr, refl, sym, ap, subst, arith}
use Rattle.std.specs.Prelude.{Bool, true, Some}
use Rattle.lf.specs.Syntax.{constant, Spine, root, nil, app, arrow, base, kind_pi, pi, star}
use Rattle.lf.specs.AtOnce.{in_front}
use Rattle.lf.specs.Substitution.{Image, keep, put}
use Rattle.lf.specs.Typing.{IsSignature, IsTypedSubstitution}
use Rattle.lf.specs.Subordination.{Block, Member}
use Rattle.lf_checks.specs.Clause.{from_entry}
use Rattle.lf_checks.specs.Marks.{TypedPlaces}
use Rattle.lf_cases.specs.Case.{covered_places}
use Rattle.lf_cases.specs.ClauseOrder.{StandsAt}
use Rattle.lf_cases.specs.Cover.{before, AreTerms}
use Rattle.lf_cases.specs.Pattern.{ground_in}
use Rattle.lf_totality.specs.Examples.{exp, var}
use Rattle.lf_totality.specs.ExamplesGroups.{on_one}
use Rattle.lf_coverage.specs.Listed.{Listed, with_case, no_offer}
use Rattle.lf_coverage.proofs.ConstantOnNew.{on_new_is_solved, on_new_store}
use Rattle.lf_coverage.proofs.Parts.{none_some, some_same}
use Rattle.lf_numbered.specs.EntryConstants.{with_entries}
use Rattle.lf_numbered.specs.EntryPatterns.{IsInstanceOfPattern, variable_images}
use Rattle.lf_numbered.specs.EntryTerms.{MatchesByNumber, own_values}
use Rattle.lf_numbered.specs.NewBlock.{with_new_block}
use Rattle.lf_numbered.specs.NumberedCallsOrder.{AreInNumberedOrder, HasNumberedRank, entry_rank, next_in_order, one_in_order, signature_rank}
use Rattle.lf_numbered.specs.NumberedCase.{NumberedCase}
use Rattle.lf_numbered.specs.NumberedSplits.{IsOfferTo, NumberedAnswer, NumberedOffer, NumberedUnifierFinds, of_case, of_new_block}
use Rattle.lf_numbered.specs.OwnStores.{IsNumberedOffer, offer_entry, offer_signature}
use Rattle.lf_numbered.specs.OwnTerms.{own_terms}
use Rattle.lf_numbered.specs.TypedNumbered.{IsTypedNumberedCase}
use Rattle.lf_numbered.specs.ExamplesNumbered.{first_block, second_block}
use Rattle.lf_numbered.specs.NumberedCalls.{ListsCases}
use Rattle.lf_numbered.specs.WorkedCallsWhole.{Whole, a_case, b_case, x_case, y_case, turning_clause, turning_head}
use Rattle.lf_numbered.proofs.ClosedFound.{closed_found}
use Rattle.lf_numbered.proofs.EntrySignature.{with_entries_is_signature}
use Rattle.lf_numbered.proofs.EntryTermsDecided.{numbered_head_is_decided}
use Rattle.lf_numbered.proofs.OffersListed.{ConstantsAreIn, EntriesAreIn, NewEntriesAreIn, entry_member, heads_are_in, offer_with, other_target}
use Rattle.lf_numbered.proofs.OwnStoresNewBlock.{new_block_stays_typed}
use Rattle.lf_numbered.proofs.OwnStoresStart.{numbered_store_is_ready}
use Rattle.lf_numbered.proofs.RanksListed.{entry_rank_in, signature_rank_in}
use Rattle.lf_numbered.proofs.VariableTyped.{value_is_typed, variable_on_own}
use Rattle.lf_numbered.proofs.WorkedCallsWholeFirst.{blocks, first_alone, free, ok, worlds}

-- f N e.y
abbrev on_number : ℕ → Image
on_number = in_front (put (base 0) (var 0)) keep

on_number_typed : IsTypedSubstitution (with_entries Whole 6 (first_block ∷ [])) (exp ∷ []) (exp ∷ []) on_number
on_number_typed = value_is_typed (with_entries Whole 6 (first_block ∷ [])) exp (exp ∷ []) on_number (refl, (exp, refl, refl))

pub y_typed : IsTypedNumberedCase Whole 6 worlds y_case
y_typed = record {
  variables = record { variables = (tt, (star, refl, tt)); on_own_terms = variable_on_own (own_terms 6 y_case.blocks) 0; blocks = (inl refl, (on_number, on_number_typed, refl), (tt, tt), tt) };
  local = (tt, (star, refl, tt));
  local_on_own = tt;
  given = tt;
  given_on_own = tt;
  arguments = ((base 0, (base 0, refl, refl)), ((base 1, (arrow (base 0) (base 1), refl, ((base 0, refl, refl), refl))), tt));
  arguments_on_own = ((tt, (((nil, refl), (tt, tt)), tt)));
}

-- Three heads: the constants a and b, and c.x for a new block variable.
abbrev new_case : NumberedCase
new_case = with_new_block second_block y_case

abbrev constant_offer : NumberedOffer
constant_offer = record { case = y_case; variable = 0; type = exp; head = constant 0; terms = nil; left = exp }

abbrev b_offer : NumberedOffer
b_offer = record { case = y_case; variable = 0; type = exp; head = constant 4; terms = nil; left = pi exp exp }

abbrev entry_offer : NumberedOffer
entry_offer = record { case = new_case; variable = 0; type = exp; head = constant 7; terms = nil; left = exp }

abbrev pub offers : List NumberedOffer
offers = constant_offer ∷ b_offer ∷ entry_offer ∷ []

constant_offered : IsNumberedOffer Whole 6 y_case exp (constant 0) nil exp
constant_offered = offer_signature 0 exp refl refl

b_offered : IsNumberedOffer Whole 6 y_case exp (constant 4) nil (pi exp exp)
b_offered = offer_signature 4 (pi exp exp) refl refl

entry_offered : IsNumberedOffer Whole 6 new_case exp (constant 7) nil exp
entry_offered = offer_entry 7 nil _ refl refl refl

pub each : (o : NumberedOffer) → Member o offers → IsOfferTo Whole 6 worlds y_case 0 exp o
each o (inl e) = subst (IsOfferTo Whole 6 worlds y_case 0 exp) (sym e) (of_case (constant 0) nil exp constant_offered)
each o (inr (inl e)) = subst (IsOfferTo Whole 6 worlds y_case 0 exp) (sym e) (of_case (constant 4) nil (pi exp exp) b_offered)
each o (inr (inr (inl e))) = subst (IsOfferTo Whole 6 worlds y_case 0 exp) (sym e) (of_new_block second_block 7 nil exp (inr (inl refl)) refl entry_offered)
each o (inr (inr (inr m))) = absurd m

constants : ConstantsAreIn Whole 6 y_case 0 exp offers
constants zero V e t = subst (λ A. Member (offer_with y_case 0 exp (constant 0) nil A) offers) (some_same e) (inl refl)
constants (suc zero) V e t = absurd (other_target e t refl)
constants (suc (suc zero)) V e t = absurd (other_target e t refl)
constants (suc (suc (suc zero))) V e t = absurd (other_target e t refl)
constants (suc (suc (suc (suc zero)))) V e t = subst (λ A. Member (offer_with y_case 0 exp (constant 4) nil A) offers) (some_same e) (inr (inl refl))
constants (suc (suc (suc (suc (suc zero))))) V e t = absurd (other_target e t refl)
constants (suc (suc (suc (suc (suc (suc k)))))) V e t = absurd (none_some e)

old_entries : EntriesAreIn Whole 6 y_case 0 exp offers
old_entries zero U V o e t = absurd (none_some o)
old_entries (suc zero) U V o e t = absurd (none_some o)
old_entries (suc (suc zero)) U V o e t = absurd (none_some o)
old_entries (suc (suc (suc zero))) U V o e t = absurd (none_some o)
old_entries (suc (suc (suc (suc zero)))) U V o e t = absurd (none_some o)
old_entries (suc (suc (suc (suc (suc zero))))) U V o e t = absurd (none_some o)
old_entries (suc (suc (suc (suc (suc (suc zero)))))) U V o e t = absurd (other_target e t refl)
old_entries (suc (suc (suc (suc (suc (suc (suc c))))))) U V o e t = absurd (none_some o)

-- the entry y of a new block variable of the first block has another family
first_entries : NewEntriesAreIn Whole 6 y_case 0 exp offers first_block
first_entries zero U V n o e t = absurd (none_some o)
first_entries (suc zero) U V n o e t = absurd (none_some o)
first_entries (suc (suc zero)) U V n o e t = absurd (none_some o)
first_entries (suc (suc (suc zero))) U V n o e t = absurd (none_some o)
first_entries (suc (suc (suc (suc zero)))) U V n o e t = absurd (none_some o)
first_entries (suc (suc (suc (suc (suc zero))))) U V n o e t = absurd (none_some o)
first_entries (suc (suc (suc (suc (suc (suc zero)))))) U V n o e t = absurd (other_target e t refl)
first_entries (suc (suc (suc (suc (suc (suc (suc zero))))))) U V n o e t = absurd (other_target e t refl)
first_entries (suc (suc (suc (suc (suc (suc (suc (suc c)))))))) U V n o e t = absurd (none_some o)

second_entries : NewEntriesAreIn Whole 6 y_case 0 exp offers second_block
second_entries zero U V n o e t = absurd (none_some o)
second_entries (suc zero) U V n o e t = absurd (none_some o)
second_entries (suc (suc zero)) U V n o e t = absurd (none_some o)
second_entries (suc (suc (suc zero))) U V n o e t = absurd (none_some o)
second_entries (suc (suc (suc (suc zero)))) U V n o e t = absurd (none_some o)
second_entries (suc (suc (suc (suc (suc zero))))) U V n o e t = absurd (none_some o)
second_entries (suc (suc (suc (suc (suc (suc zero)))))) U V n o e t = absurd (other_target e t refl)
second_entries (suc (suc (suc (suc (suc (suc (suc zero))))))) U V n o e t = entry_member new_case 0 exp offers 7 _ U _ V o e (inr (inr (inl refl)))
second_entries (suc (suc (suc (suc (suc (suc (suc (suc zero)))))))) U V n o e t = absurd (other_target e t refl)
second_entries (suc (suc (suc (suc (suc (suc (suc (suc (suc c))))))))) U V n o e t = absurd (none_some o)

pub every : (o : NumberedOffer) → IsOfferTo Whole 6 worlds y_case 0 exp o → Member o offers
every = heads_are_in Whole 6 y_case 0 exp offers worlds refl constants old_entries (first_entries, (second_entries, tt))

abbrev ranks : List (List ℕ)
ranks = (0 ∷ 0 ∷ []) ∷ (0 ∷ 4 ∷ []) ∷ (1 ∷ 1 ∷ 0 ∷ 0 ∷ []) ∷ []

in_order : AreInNumberedOrder 6 worlds y_case offers ranks
in_order = next_in_order (signature_rank 0 refl refl) (inr (refl, inl (omega arith))) (next_in_order (signature_rank 4 refl refl) (inl (omega arith)) (one_in_order (entry_rank 7 1 _ refl refl refl)))

other_label : second_block ≡ first_block → ⊥
other_label e = (let p : suc (suc zero) ≡ suc zero = ap (λ (B : Block). length B.entries) e in omega (arith, p))

stands_second : (w : ℕ) → StandsAt w second_block worlds → w ≡ 1
stands_second zero s = absurd (other_label s)
stands_second (suc zero) s = refl
stands_second (suc (suc w)) s = absurd s

every_rank : (o : NumberedOffer) (r : List ℕ) → Member o offers → HasNumberedRank 6 worlds y_case o r → Member r ranks
every_rank o r (inl e) h = signature_rank_in 6 worlds y_case o 0 e refl refl ranks (inl refl) r h
every_rank o r (inr (inl e)) h = signature_rank_in 6 worlds y_case o 4 e refl refl ranks (inr (inl refl)) r h
every_rank o r (inr (inr (inl e))) h = entry_rank_in 6 worlds y_case o 7 _ e refl refl ranks (λ w s. subst (λ v. Member (1 ∷ v ∷ 0 ∷ 0 ∷ []) ranks) (sym (stands_second w s)) (inr (inr (inl refl)))) r h
every_rank o r (inr (inr (inr m))) h = absurd m

constant_found : (below : ℕ → ℕ → Bool) → NumberedUnifierFinds Whole 6 below constant_offer star (Some a_case)
constant_found below = closed_found Whole ok worlds blocks 6 free below 0 refl y_case.blocks 2 y_case.arguments y_typed first_alone 0 refl constant_offered

-- N = b N' is solved: N' is free.
abbrev entries_ok : IsSignature (with_entries Whole 6 (first_block ∷ []))
entries_ok = with_entries_is_signature Whole ok 6 free (first_block ∷ []) first_alone

b_found : (below : ℕ → ℕ → Bool) → NumberedUnifierFinds Whole 6 below b_offer star (Some b_case)
b_found below = (on_new_store (with_entries Whole 6 (first_block ∷ [])) entries_ok 0 0 4 refl refl refl, on_new_is_solved (with_entries Whole 6 (first_block ∷ [])) entries_ok 0 0 4 refl refl refl (numbered_store_is_ready Whole ok worlds blocks 6 free below y_case y_typed 0 exp refl (constant 4) nil (pi exp exp) b_offered star refl), refl)

entry_found : (below : ℕ → ℕ → Bool) → NumberedUnifierFinds Whole 6 below entry_offer star (Some x_case)
entry_found below = closed_found Whole ok worlds blocks 6 free below 0 refl new_case.blocks 2 new_case.arguments (new_block_stays_typed Whole ok worlds blocks 6 free y_case y_typed second_block (inr (inl refl))) blocks 7 refl entry_offered

pub listed : (below : ℕ → ℕ → Bool) → Listed (NumberedAnswer Whole 6 below) offers (a_case ∷ b_case ∷ x_case ∷ [])
listed below = with_case (record { kind = star; of_family = refl; finds = constant_found below }) (with_case (record { kind = star; of_family = refl; finds = b_found below }) (with_case (record { kind = star; of_family = refl; finds = entry_found below }) no_offer))

-- f c.x e.y is an instance of the entry u of c.
abbrev on_entry : ℕ → Image
on_entry = in_front (put (base 0) (root (constant 7) nil)) keep

on_entry_typed : IsTypedSubstitution (with_entries Whole 6 worlds) (exp ∷ []) [] on_entry
on_entry_typed = value_is_typed (with_entries Whole 6 worlds) exp [] on_entry (refl, (exp, refl, refl))

pub entry_typed : IsTypedNumberedCase Whole 6 worlds x_case
entry_typed = record {
  variables = record { variables = tt; on_own_terms = λ i A g. absurd g; blocks = (inl refl, (on_entry, on_entry_typed, refl), (((nil, refl), tt), tt), (inr (inl refl), (keep, (λ i A g. absurd g), refl), tt, tt)) };
  local = tt;
  local_on_own = tt;
  given = tt;
  given_on_own = tt;
  arguments = ((base 0, (base 0, refl, refl)), ((base 1, (arrow (base 0) (base 1), refl, ((base 0, refl, refl), refl))), tt));
  arguments_on_own = (((nil, refl), tt), (((nil, refl), (((nil, refl), tt), tt)), tt));
}

abbrev outer : ℕ → Image
outer = before [] (variable_images 6 x_case.blocks 1 second_block nil)

terms : AreTerms turning_clause (ground_in turning_head (covered_places x_case.arguments) x_case.given) (own_values x_case turning_head outer)
terms zero o u = tt
terms (suc i) o u = absurd cc

entry_match : MatchesByNumber 6 x_case turning_head
entry_match = (outer, (1, nil, refl, (λ e. absurd cc), refl), (((refl, tt), ((refl, tt), tt)), terms, (refl, (refl, tt))))

abbrev tuple : Spine
tuple = app (root (constant 7) nil) (app (root (constant 6) (app (root (constant 7) nil) nil)) nil)

pub entry_instance : IsInstanceOfPattern Whole 6 x_case turning_head
entry_instance = (numbered_head_is_decided Whole ok worlds blocks 6 free x_case entry_typed turning_clause (from_entry second_block [] _ (exp ∷ []) (inr (inl refl)) refl) refl refl (kind_pi exp (kind_pi (on_one 1 (var 0)) star)) refl (tt, (((refl, tt), tt), tt)) tuple (refl, (refl, tt)) typed).0.1 entry_match
  where
    typed : TypedPlaces (with_entries Whole 6 worlds) (true ∷ true ∷ []) [] tuple (kind_pi exp (kind_pi (on_one 1 (var 0)) star))
    typed = ((exp, refl, refl), ((_, refl, ((exp, refl, refl), refl)), tt))

pub y_lists : (below : ℕ → ℕ → Bool) → ListsCases Whole 6 worlds below y_case 0 (a_case ∷ b_case ∷ x_case ∷ [])
y_lists below = record {
  unified = record {
    type = exp;
    at = refl;
    offers = offers;
    each = each;
    every = every;
    listed = listed below;
  };
  ranks = ranks;
  in_order = in_order;
  every_rank = λ o r f h. every_rank o r (every o f) h;
}
