-- The worked split by an entry alone.
use Rattle.std.proofs.Common.{◌≡◌, ℕ, zero, suc, [], ◌∷◌, inl, inr, refl, sym, subst}
use Rattle.std.specs.Prelude.{Bool, Some, true}
use Rattle.lf.specs.Syntax.{constant, nil, Kind, kind_pi, star}
use Rattle.lf.specs.Typing.{IsKind, IsSignature}
use Rattle.lf.specs.Subordination.{AreTypedBlocks, IsTypedBlock, Member}
use Rattle.lf_coverage.specs.Heads.{ArgumentsAreBelow}
use Rattle.lf_coverage.specs.Listed.{with_case, no_offer}
use Rattle.lf_coverage.proofs.Parts.{none_some, some_same}
use Rattle.lf_numbered.specs.EntryConstants.{IsFreeFrom}
use Rattle.lf_numbered.specs.NewBlock.{with_new_block}
use Rattle.lf_numbered.specs.NumberedCase.{NumberedCase}
use Rattle.lf_numbered.specs.NumberedSplits.{NumberedOffer, IsOfferTo, of_new_block, IsAnsweredByNumber, NumberedUnifierFinds}
use Rattle.lf_numbered.specs.NumberedSplitsRuns.{AnswersByNumber}
use Rattle.lf_numbered.specs.NumberedSplitsExamples.{Bare, exp, exp_block, open_case, entry_case, OpenIsSplitByEntry}
use Rattle.lf_numbered.specs.OwnStores.{IsNumberedOffer, offer_entry}
use Rattle.lf_numbered.specs.TypedNumbered.{IsTypedNumberedCase}
use Rattle.lf_numbered.proofs.ClosedFound.{closed_found}
use Rattle.lf_numbered.proofs.FreeFrom.{free_from}
use Rattle.lf_numbered.proofs.NumberedSplits.{answered_by_number_is_split}
use Rattle.lf_numbered.proofs.OffersListed.{NewEntriesAreIn, entry_member, heads_are_in, other_target}
use Rattle.lf_numbered.proofs.OwnStoresNewBlock.{new_block_stays_typed}
use Rattle.lf_numbered.proofs.VariableTyped.{variable_is_typed}

pub bare_ok : IsSignature Bare
bare_ok = record { types_ok = λ c A e. absurd cc; kinds_ok = at }
  where
    at : (a : ℕ) (K : Kind) → Bare.kinds a ≡ Some K → IsKind Bare [] K
    at zero K e = subst (IsKind Bare []) (some_same e) tt
    at (suc zero) K e = subst (IsKind Bare []) (some_same e) ((star, refl, tt), tt)
    at (suc (suc a)) K e = absurd cc

pub free : IsFreeFrom Bare 2
free = free_from Bare 2 (λ c. refl) (λ a. refl)

pub blocks_typed : AreTypedBlocks Bare (exp_block ∷ [])
blocks_typed B (inl e) = subst (λ D. IsTypedBlock Bare D) (sym e) ((tt, (star, refl, tt)), (kind_pi exp star, refl, ((exp, refl, refl), tt)))
blocks_typed B (inr m) = absurd m

pub open_typed : IsTypedNumberedCase Bare 2 (exp_block ∷ []) open_case
open_typed = variable_is_typed Bare 2 (exp_block ∷ []) 0 1 refl [] tt

-- The one offer
abbrev pub new_case : NumberedCase
new_case = with_new_block exp_block open_case

abbrev pub the_offer : NumberedOffer
the_offer = record { case = new_case; variable = 0; type = exp; head = constant 2; terms = nil; left = exp }

entry_offered : IsNumberedOffer Bare 2 new_case exp (constant 2) nil exp
entry_offered = offer_entry 2 nil exp refl refl refl

pub each : (o : NumberedOffer) → Member o (the_offer ∷ []) → IsOfferTo Bare 2 (exp_block ∷ []) open_case 0 exp o
each o (inl e) = subst (IsOfferTo Bare 2 (exp_block ∷ []) open_case 0 exp) (sym e) (of_new_block exp_block 2 nil exp (inl refl) refl entry_offered)
each o (inr m) = absurd m

new_entries : NewEntriesAreIn Bare 2 open_case 0 exp (the_offer ∷ []) exp_block
new_entries zero U V n o e t = absurd (none_some o)
new_entries (suc zero) U V n o e t = absurd (none_some o)
new_entries (suc (suc zero)) U V n o e t = entry_member new_case 0 exp (the_offer ∷ []) 2 _ U _ V o e (inl refl)
new_entries (suc (suc (suc zero))) U V n o e t = absurd (other_target e t refl)
new_entries (suc (suc (suc (suc c)))) U V n o e t = absurd (none_some o)

pub every : (o : NumberedOffer) → IsOfferTo Bare 2 (exp_block ∷ []) open_case 0 exp o → Member o (the_offer ∷ [])
every = heads_are_in Bare 2 open_case 0 exp (the_offer ∷ []) (exp_block ∷ []) refl (λ k V e t. absurd (none_some e)) (λ c U V o e t. absurd (none_some o)) (new_entries, tt)

module _ (below : ℕ → ℕ → Bool) where
  -- for this head unification finds p b.x
  pub entry_found : NumberedUnifierFinds Bare 2 below the_offer star (Some entry_case)
  entry_found = closed_found Bare bare_ok (exp_block ∷ []) blocks_typed 2 free below 0 refl new_case.blocks 1 new_case.arguments (new_block_stays_typed Bare bare_ok (exp_block ∷ []) blocks_typed 2 free open_case open_typed exp_block (inl refl)) blocks_typed 2 refl entry_offered

  unfoldable pub open_is_answered : IsAnsweredByNumber Bare 2 (exp_block ∷ []) below open_case 0 (entry_case ∷ [])
  open_is_answered = record {
    type = exp;
    at = refl;
    takes_below = tt;
    offers = the_offer ∷ [];
    each = each;
    every = every;
    arguments_below = λ o f. subst (λ (p : NumberedOffer). ArgumentsAreBelow below p.left) (sym (the_only o (every o f))) tt;
    listed = with_case (record { kind = star; of_family = refl; finds = entry_found }) no_offer;
  }
    where
      the_only : (o : NumberedOffer) → Member o (the_offer ∷ []) → o ≡ the_offer
      the_only o (inl e) = e
      the_only o (inr m) = absurd m

pub open_offers : (below : ℕ → ℕ → Bool) → (open_is_answered below).offers ≡ the_offer ∷ []
unfolding open_is_answered
open_offers below = refl

pub open_answers : (below : ℕ → ℕ → Bool) (S : ℕ → Bool) → S 0 ≡ true → AnswersByNumber Bare 2 (exp_block ∷ []) below S open_case (entry_case ∷ [])
unfolding open_is_answered
open_answers below S e = (0, open_is_answered below, e)

pub open_is_split_by_entry : OpenIsSplitByEntry
unfolding open_is_answered
open_is_split_by_entry = (open_is_answered, λ below s S sc e. answered_by_number_is_split Bare bare_ok (exp_block ∷ []) blocks_typed below s S sc 2 free open_case open_typed 0 (entry_case ∷ []) (open_is_answered below) e)
