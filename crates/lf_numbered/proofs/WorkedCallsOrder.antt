-- Worked splits by a new entry and an old one, and in worlds that have a block twice.
use Rattle.std.proofs.Common.{ℕ, zero, suc, List, [], ◌∷◌, inl, inr, refl, sym, subst, arith}
use Rattle.std.specs.Prelude.{Bool, Some}
use Rattle.lf.specs.Syntax.{constant, nil, star}
use Rattle.lf.specs.Substitution.{keep}
use Rattle.lf.specs.Subordination.{Block, AreTypedBlocks, Member}
use Rattle.lf_cases.specs.ClauseOrder.{StandsAt}
use Rattle.lf_coverage.specs.Listed.{with_case, no_offer}
use Rattle.lf_coverage.proofs.Parts.{none_some}
use Rattle.lf_numbered.specs.NewBlock.{with_new_block}
use Rattle.lf_numbered.specs.NumberedCallsOrder.{AreInNumberedOrder, HasNumberedRank, entry_rank, next_in_order, one_in_order}
use Rattle.lf_numbered.specs.NumberedCase.{NumberedCase}
use Rattle.lf_numbered.specs.NumberedSplits.{IsOfferTo, NumberedOffer, NumberedUnifierFinds, of_case, of_new_block}
use Rattle.lf_numbered.specs.NumberedSplitsExamples.{Bare, entry_case, exp, exp_block, open_case}
use Rattle.lf_numbered.specs.OwnStores.{IsNumberedOffer, offer_entry}
use Rattle.lf_numbered.specs.WorkedCallsOrder.{EntryIsOfferedTwice, NewEntryComesFirst, beside_block, new_entry_case, old_entry_case}
use Rattle.lf_numbered.specs.TypedNumbered.{IsTypedNumberedCase}
use Rattle.lf_numbered.proofs.ClosedFound.{closed_found}
use Rattle.lf_numbered.proofs.NumberedCallsLaws.{answered_by_number_is_split_answer}
use Rattle.lf_numbered.proofs.NumberedSplitsExamples.{bare_ok, blocks_typed, each, entry_found, every, free, the_offer}
use Rattle.lf_numbered.proofs.OffersListed.{EntriesAreIn, NewEntriesAreIn, entry_member, heads_are_in, other_target}
use Rattle.lf_numbered.proofs.OwnStoresNewBlock.{new_block_stays_typed}
use Rattle.lf_numbered.proofs.RanksListed.{entry_rank_in, only_entry_rank_in}
use Rattle.lf_numbered.proofs.VariableTyped.{variable_is_typed}

abbrev worlds : List Block
worlds = exp_block ∷ []

beside_typed : IsTypedNumberedCase Bare 2 worlds beside_block
beside_typed = variable_is_typed Bare 2 worlds 0 1 refl beside_block.blocks (inl refl, (keep, (λ i A g. absurd g), refl), tt, tt)

-- The two heads: c.x for a new block variable, and b.x.
abbrev new_case : NumberedCase
new_case = with_new_block exp_block beside_block

abbrev new_offer : NumberedOffer
new_offer = record { case = new_case; variable = 0; type = exp; head = constant 4; terms = nil; left = exp }

abbrev old_offer : NumberedOffer
old_offer = record { case = beside_block; variable = 0; type = exp; head = constant 2; terms = nil; left = exp }

abbrev offers : List NumberedOffer
offers = new_offer ∷ old_offer ∷ []

new_offered : IsNumberedOffer Bare 2 new_case exp (constant 4) nil exp
new_offered = offer_entry 4 nil _ refl refl refl

old_offered : IsNumberedOffer Bare 2 beside_block exp (constant 2) nil exp
old_offered = offer_entry 2 nil _ refl refl refl

each_of_two : (o : NumberedOffer) → Member o offers → IsOfferTo Bare 2 worlds beside_block 0 exp o
each_of_two o (inl e) = subst (IsOfferTo Bare 2 worlds beside_block 0 exp) (sym e) (of_new_block exp_block 4 nil exp (inl refl) refl new_offered)
each_of_two o (inr (inl e)) = subst (IsOfferTo Bare 2 worlds beside_block 0 exp) (sym e) (of_case (constant 2) nil exp old_offered)
each_of_two o (inr (inr m)) = absurd m

old_entries : EntriesAreIn Bare 2 beside_block 0 exp offers
old_entries zero U V o e t = absurd (none_some o)
old_entries (suc zero) U V o e t = absurd (none_some o)
old_entries (suc (suc zero)) U V o e t = entry_member beside_block 0 exp offers 2 _ U _ V o e (inr (inl refl))
old_entries (suc (suc (suc zero))) U V o e t = absurd (other_target e t refl)
old_entries (suc (suc (suc (suc c)))) U V o e t = absurd (none_some o)

new_entries : NewEntriesAreIn Bare 2 beside_block 0 exp offers exp_block
new_entries zero U V n o e t = absurd (none_some o)
new_entries (suc zero) U V n o e t = absurd (none_some o)
new_entries (suc (suc zero)) U V n o e t = absurd (none_some (sym n))
new_entries (suc (suc (suc zero))) U V n o e t = absurd (none_some (sym n))
new_entries (suc (suc (suc (suc zero)))) U V n o e t = entry_member new_case 0 exp offers 4 _ U _ V o e (inl refl)
new_entries (suc (suc (suc (suc (suc zero))))) U V n o e t = absurd (other_target e t refl)
new_entries (suc (suc (suc (suc (suc (suc c)))))) U V n o e t = absurd (none_some o)

every_of_two : (o : NumberedOffer) → IsOfferTo Bare 2 worlds beside_block 0 exp o → Member o offers
every_of_two = heads_are_in Bare 2 beside_block 0 exp offers worlds refl (λ k V s t. absurd (none_some s)) old_entries (new_entries, tt)

abbrev ranks : List (List ℕ)
ranks = (1 ∷ 0 ∷ 0 ∷ 0 ∷ []) ∷ (1 ∷ 0 ∷ 0 ∷ 1 ∷ []) ∷ []

in_order : AreInNumberedOrder 2 worlds beside_block offers ranks
in_order = next_in_order (entry_rank 4 0 _ refl refl refl) (inr (refl, inr (refl, inr (refl, inl (omega arith))))) (one_in_order (entry_rank 2 0 _ refl refl refl))

every_rank : (o : NumberedOffer) (r : List ℕ) → Member o offers → HasNumberedRank 2 worlds beside_block o r → Member r ranks
every_rank o r (inl e) h = only_entry_rank_in 2 exp_block beside_block o 4 _ e refl refl ranks (inl refl) r h
every_rank o r (inr (inl e)) h = only_entry_rank_in 2 exp_block beside_block o 2 _ e refl refl ranks (inr (inl refl)) r h
every_rank o r (inr (inr m)) h = absurd m

two_blocks : AreTypedBlocks Bare (exp_block ∷ exp_block ∷ [])
two_blocks B (inl e) = blocks_typed B (inl e)
two_blocks B (inr m) = blocks_typed B m

new_found : (below : ℕ → ℕ → Bool) → NumberedUnifierFinds Bare 2 below new_offer star (Some new_entry_case)
new_found below = closed_found Bare bare_ok worlds blocks_typed 2 free below 0 refl new_case.blocks 1 new_case.arguments (new_block_stays_typed Bare bare_ok worlds blocks_typed 2 free beside_block beside_typed exp_block (inl refl)) two_blocks 4 refl new_offered

old_found : (below : ℕ → ℕ → Bool) → NumberedUnifierFinds Bare 2 below old_offer star (Some old_entry_case)
old_found below = closed_found Bare bare_ok worlds blocks_typed 2 free below 0 refl beside_block.blocks 1 beside_block.arguments beside_typed blocks_typed 2 refl old_offered

pub new_entry_comes_first : NewEntryComesFirst
new_entry_comes_first below s = answered_by_number_is_split_answer Bare bare_ok worlds blocks_typed below s 2 free beside_block beside_typed 0 (new_entry_case ∷ old_entry_case ∷ []) (record {
  unified = record {
    type = exp;
    at = refl;
    offers = offers;
    each = each_of_two;
    every = every_of_two;
    listed = with_case (record { kind = star; of_family = refl; finds = new_found below }) (with_case (record { kind = star; of_family = refl; finds = old_found below }) no_offer);
  };
  ranks = ranks;
  in_order = in_order;
  every_rank = λ o r f h. every_rank o r (every_of_two o f) h;
})

-- The same block twice in the worlds.
abbrev twice : List Block
twice = exp_block ∷ exp_block ∷ []

open_typed_twice : IsTypedNumberedCase Bare 2 twice open_case
open_typed_twice = variable_is_typed Bare 2 twice 0 1 refl [] tt

once : (B : Block) → Member B twice → Member B worlds
once B (inl e) = inl e
once B (inr m) = m

to_once : (o : NumberedOffer) → IsOfferTo Bare 2 twice open_case 0 exp o → IsOfferTo Bare 2 worlds open_case 0 exp o
to_once o (of_case h U A f) = of_case h U A f
to_once o (of_new_block B c U A m n f) = of_new_block B c U A (once B m) n f

to_twice : (o : NumberedOffer) → IsOfferTo Bare 2 worlds open_case 0 exp o → IsOfferTo Bare 2 twice open_case 0 exp o
to_twice o (of_case h U A f) = of_case h U A f
to_twice o (of_new_block B c U A m n f) = of_new_block B c U A (inr m) n f

abbrev same_offers : List NumberedOffer
same_offers = the_offer ∷ the_offer ∷ []

the_only : (o : NumberedOffer) → Member o same_offers → Member o (the_offer ∷ [])
the_only o (inl e) = inl e
the_only o (inr m) = m

same_ranks : List (List ℕ)
same_ranks = (1 ∷ 0 ∷ 0 ∷ 0 ∷ []) ∷ (1 ∷ 1 ∷ 0 ∷ 0 ∷ []) ∷ []

stands_in_ranks : (w : ℕ) → StandsAt w exp_block twice → Member (1 ∷ w ∷ 0 ∷ 0 ∷ []) same_ranks
unfolding same_ranks
stands_in_ranks zero s = inl refl
stands_in_ranks (suc zero) s = inr (inl refl)
stands_in_ranks (suc (suc w)) s = absurd s

same_rank : (o : NumberedOffer) (r : List ℕ) → Member o (the_offer ∷ []) → HasNumberedRank 2 twice open_case o r → Member r same_ranks
same_rank o r (inl e) h = entry_rank_in 2 twice open_case o 2 _ e refl refl same_ranks stands_in_ranks r h
same_rank o r (inr m) h = absurd m

twice_in_order : AreInNumberedOrder 2 twice open_case same_offers same_ranks
unfolding same_ranks
twice_in_order = next_in_order (entry_rank 2 0 _ refl refl refl) (inr (refl, inl (omega arith))) (one_in_order (entry_rank 2 1 _ refl refl refl))

pub entry_is_offered_twice : EntryIsOfferedTwice
entry_is_offered_twice below s = answered_by_number_is_split_answer Bare bare_ok twice two_blocks below s 2 free open_case open_typed_twice 0 (entry_case ∷ entry_case ∷ []) (record {
  unified = record {
    type = exp;
    at = refl;
    offers = same_offers;
    each = λ o m. to_twice o (each o (the_only o m));
    every = λ o f. inr (every o (to_once o f));
    listed = with_case (record { kind = star; of_family = refl; finds = entry_found below }) (with_case (record { kind = star; of_family = refl; finds = entry_found below }) no_offer);
  };
  ranks = same_ranks;
  in_order = twice_in_order;
  every_rank = λ o r f h. same_rank o r (every o (to_once o f)) h;
})
