-- The split of the worked run in a world with a block: by two constants and an entry.
use Rattle.std.proofs.Common.{◌≡◌, ℕ, zero, suc, List, [], ◌∷◌, inl, inr, refl, sym, subst, arith}
use Rattle.std.specs.Prelude.{Bool, Some}
use Rattle.lf.specs.Syntax.{constant, Kind, nil, LfType, pi, star}
use Rattle.lf.specs.Typing.{IsKind, IsType, IsSignature, Signature}
use Rattle.lf.specs.Subordination.{AreTypedBlocks, IsTypedBlock, Member}
use Rattle.lf_unification.specs.Solving.{IsWellFormed}
use Rattle.lf_unification.specs.Unifiers.{Store}
use Rattle.lf_totality.specs.Examples.{exp}
use Rattle.lf_coverage.specs.Listed.{Listed, with_case, no_offer}
use Rattle.lf_coverage.proofs.ConstantOnNew.{on_new_is_solved, on_new_store}
use Rattle.lf_coverage.proofs.Parts.{none_some, some_same}
use Rattle.lf_numbered.specs.EntryConstants.{IsFreeFrom, with_entries}
use Rattle.lf_numbered.specs.NewBlock.{with_new_block}
use Rattle.lf_numbered.specs.NumberedCalls.{ListsCases}
use Rattle.lf_numbered.specs.NumberedCallsOrder.{AreInNumberedOrder, HasNumberedRank, entry_rank, next_in_order, one_in_order, signature_rank}
use Rattle.lf_numbered.specs.NumberedCase.{NumberedCase}
use Rattle.lf_numbered.specs.NumberedSplits.{IsOfferTo, NumberedAnswer, NumberedOffer, NumberedUnifierFinds, of_case, of_new_block}
use Rattle.lf_numbered.specs.OwnStores.{IsNumberedOffer, numbered_store, offer_entry, offer_signature}
use Rattle.lf_numbered.specs.WorkedCallsRun.{Unasked, q_a_case, q_b_case, q_goal, q_x_case, unasked_block, unasked_kinds, unasked_types, unasked_worlds}
use Rattle.lf_numbered.specs.TypedNumbered.{IsTypedNumberedCase}
use Rattle.lf_numbered.proofs.ClosedFound.{closed_found}
use Rattle.lf_numbered.proofs.EntrySignature.{with_entries_is_signature}
use Rattle.lf_numbered.proofs.FreeFrom.{free_from}
use Rattle.lf_numbered.proofs.OffersListed.{ConstantsAreIn, NewEntriesAreIn, entry_member, heads_are_in, offer_with, other_target}
use Rattle.lf_numbered.proofs.OwnStoresNewBlock.{new_block_stays_typed}
use Rattle.lf_numbered.proofs.OwnStoresStart.{numbered_store_is_ready}
use Rattle.lf_numbered.proofs.RanksListed.{only_entry_rank_in, signature_rank_in}
use Rattle.lf_numbered.proofs.VariableTyped.{variable_is_typed}

pub ok : IsSignature Unasked
ok = record { types_ok = types; kinds_ok = kinds }
  where
    types : (c : ℕ) (A : LfType) → unasked_types c ≡ Some A → IsType Unasked [] A
    types zero A e = subst (IsType Unasked []) (some_same e) (star, refl, tt)
    types (suc zero) A e = subst (IsType Unasked []) (some_same e) ((star, refl, tt), (star, refl, tt))
    types (suc (suc zero)) A e = subst (IsType Unasked []) (some_same e) (_, refl, ((exp, refl, refl), tt))
    types (suc (suc (suc zero))) A e = subst (IsType Unasked []) (some_same e) ((star, refl, tt), (_, refl, ((pi exp exp, refl, ((exp, refl, refl), refl)), tt)))
    types (suc (suc (suc (suc c)))) A e = absurd (none_some e)

    kinds : (a : ℕ) (K : Kind) → unasked_kinds a ≡ Some K → IsKind Unasked [] K
    kinds zero K e = subst (IsKind Unasked []) (some_same e) tt
    kinds (suc zero) K e = subst (IsKind Unasked []) (some_same e) ((star, refl, tt), tt)
    kinds (suc (suc zero)) K e = subst (IsKind Unasked []) (some_same e) ((star, refl, tt), tt)
    kinds (suc (suc (suc a))) K e = absurd (none_some e)

pub blocks : AreTypedBlocks Unasked unasked_worlds
blocks B (inl e) = subst (IsTypedBlock Unasked) (sym e) (((tt, (star, refl, tt)), (_, refl, ((exp, refl, refl), tt))), (_, refl, ((exp, (exp, refl, refl), refl), tt)))
blocks B (inr m) = absurd m

pub free : IsFreeFrom Unasked 4
free = free_from Unasked 4 (λ c. refl) (λ a. refl)

pub goal_typed : IsTypedNumberedCase Unasked 4 unasked_worlds q_goal
goal_typed = variable_is_typed Unasked 4 unasked_worlds 0 2 refl [] tt

-- The three heads.
abbrev new_case : NumberedCase
new_case = with_new_block unasked_block q_goal

abbrev a_offer : NumberedOffer
a_offer = record { case = q_goal; variable = 0; type = exp; head = constant 0; terms = nil; left = exp }

abbrev b_offer : NumberedOffer
b_offer = record { case = q_goal; variable = 0; type = exp; head = constant 1; terms = nil; left = pi exp exp }

abbrev x_offer : NumberedOffer
x_offer = record { case = new_case; variable = 0; type = exp; head = constant 4; terms = nil; left = exp }

abbrev pub offers : List NumberedOffer
offers = a_offer ∷ b_offer ∷ x_offer ∷ []

a_offered : IsNumberedOffer Unasked 4 q_goal exp (constant 0) nil exp
a_offered = offer_signature 0 exp refl refl

b_offered : IsNumberedOffer Unasked 4 q_goal exp (constant 1) nil (pi exp exp)
b_offered = offer_signature 1 (pi exp exp) refl refl

x_offered : IsNumberedOffer Unasked 4 new_case exp (constant 4) nil exp
x_offered = offer_entry 4 nil _ refl refl refl

pub each : (o : NumberedOffer) → Member o offers → IsOfferTo Unasked 4 unasked_worlds q_goal 0 exp o
each o (inl e) = subst (IsOfferTo Unasked 4 unasked_worlds q_goal 0 exp) (sym e) (of_case (constant 0) nil exp a_offered)
each o (inr (inl e)) = subst (IsOfferTo Unasked 4 unasked_worlds q_goal 0 exp) (sym e) (of_case (constant 1) nil (pi exp exp) b_offered)
each o (inr (inr (inl e))) = subst (IsOfferTo Unasked 4 unasked_worlds q_goal 0 exp) (sym e) (of_new_block unasked_block 4 nil exp (inl refl) refl x_offered)
each o (inr (inr (inr m))) = absurd m

constants : ConstantsAreIn Unasked 4 q_goal 0 exp offers
constants zero V e t = subst (λ A. Member (offer_with q_goal 0 exp (constant 0) nil A) offers) (some_same e) (inl refl)
constants (suc zero) V e t = subst (λ A. Member (offer_with q_goal 0 exp (constant 1) nil A) offers) (some_same e) (inr (inl refl))
constants (suc (suc zero)) V e t = absurd (other_target e t refl)
constants (suc (suc (suc zero))) V e t = absurd (other_target e t refl)
constants (suc (suc (suc (suc k)))) V e t = absurd (none_some e)

new_entries : NewEntriesAreIn Unasked 4 q_goal 0 exp offers unasked_block
new_entries zero U V n o e t = absurd (none_some o)
new_entries (suc zero) U V n o e t = absurd (none_some o)
new_entries (suc (suc zero)) U V n o e t = absurd (none_some o)
new_entries (suc (suc (suc zero))) U V n o e t = absurd (none_some o)
new_entries (suc (suc (suc (suc zero)))) U V n o e t = entry_member new_case 0 exp offers 4 _ U _ V o e (inr (inr (inl refl)))
new_entries (suc (suc (suc (suc (suc zero))))) U V n o e t = absurd (other_target e t refl)
new_entries (suc (suc (suc (suc (suc (suc zero)))))) U V n o e t = absurd (other_target e t refl)
new_entries (suc (suc (suc (suc (suc (suc (suc c))))))) U V n o e t = absurd (none_some o)

pub every : (o : NumberedOffer) → IsOfferTo Unasked 4 unasked_worlds q_goal 0 exp o → Member o offers
every = heads_are_in Unasked 4 q_goal 0 exp offers unasked_worlds refl constants (λ c V B o e t. absurd (none_some o)) (new_entries, tt)

abbrev ranks : List (List ℕ)
ranks = (0 ∷ 0 ∷ []) ∷ (0 ∷ 1 ∷ []) ∷ (1 ∷ 0 ∷ 0 ∷ 0 ∷ []) ∷ []

in_order : AreInNumberedOrder 4 unasked_worlds q_goal offers ranks
in_order = next_in_order (signature_rank 0 refl refl) (inr (refl, inl (omega arith))) (next_in_order (signature_rank 1 refl refl) (inl (omega arith)) (one_in_order (entry_rank 4 0 _ refl refl refl)))

every_rank : (o : NumberedOffer) (r : List ℕ) → Member o offers → HasNumberedRank 4 unasked_worlds q_goal o r → Member r ranks
every_rank o r (inl e) h = signature_rank_in 4 unasked_worlds q_goal o 0 e refl refl ranks (inl refl) r h
every_rank o r (inr (inl e)) h = signature_rank_in 4 unasked_worlds q_goal o 1 e refl refl ranks (inr (inl refl)) r h
every_rank o r (inr (inr (inl e))) h = only_entry_rank_in 4 unasked_block q_goal o 4 _ e refl refl ranks (inr (inr (inl refl))) r h
every_rank o r (inr (inr (inr m))) h = absurd m

no_typed_blocks : AreTypedBlocks Unasked []
no_typed_blocks B m = absurd m

a_found : (below : ℕ → ℕ → Bool) → NumberedUnifierFinds Unasked 4 below a_offer star (Some q_a_case)
a_found below = closed_found Unasked ok unasked_worlds blocks 4 free below 0 refl [] 2 q_goal.arguments goal_typed no_typed_blocks 0 refl a_offered

x_found : (below : ℕ → ℕ → Bool) → NumberedUnifierFinds Unasked 4 below x_offer star (Some q_x_case)
x_found below = closed_found Unasked ok unasked_worlds blocks 4 free below 0 refl new_case.blocks 2 new_case.arguments (new_block_stays_typed Unasked ok unasked_worlds blocks 4 free q_goal goal_typed unasked_block (inl refl)) blocks 4 refl x_offered

-- E = b E' is solved: E' is free.
abbrev Entries : Signature
Entries = with_entries Unasked 4 []

entries_ok : IsSignature Entries
entries_ok = with_entries_is_signature Unasked ok 4 free [] no_typed_blocks

module _ (below : ℕ → ℕ → Bool) where
  abbrev store : Store
  store = numbered_store below q_goal 0 exp (constant 1) nil (pi exp exp) star

  ready : IsWellFormed Entries store
  ready = numbered_store_is_ready Unasked ok unasked_worlds blocks 4 free below q_goal goal_typed 0 exp refl (constant 1) nil (pi exp exp) b_offered star refl

  b_found : NumberedUnifierFinds Unasked 4 below b_offer star (Some q_b_case)
  b_found = (on_new_store Entries entries_ok 0 0 1 refl refl refl, on_new_is_solved Entries entries_ok 0 0 1 refl refl refl ready, refl)

pub all_listed : (below : ℕ → ℕ → Bool) → Listed (NumberedAnswer Unasked 4 below) offers (q_a_case ∷ q_b_case ∷ q_x_case ∷ [])
all_listed below = with_case (record { kind = star; of_family = refl; finds = a_found below }) (with_case (record { kind = star; of_family = refl; finds = b_found below }) (with_case (record { kind = star; of_family = refl; finds = x_found below }) no_offer))

pub lists : (below : ℕ → ℕ → Bool) → ListsCases Unasked 4 unasked_worlds below q_goal 0 (q_a_case ∷ q_b_case ∷ q_x_case ∷ [])
lists below = record {
  unified = record { type = exp; at = refl; offers = offers; each = each; every = every; listed = all_listed below };
  ranks = ranks;
  in_order = in_order;
  every_rank = λ o r f h. every_rank o r (every o f) h;
}
