-- A worked split of a variable on which an older block variable stands.
use Rattle.std.proofs.Common.{◌≡◌, ℕ, zero, suc, List, [], ◌∷◌, inl, inr, refl, sym, subst, arith}
use Rattle.std.specs.Prelude.{Bool, Some, None}
use Rattle.lf.specs.Syntax.{constant, metavariable, Term, root, nil, app, base, star}
use Rattle.lf.specs.Substitution.{put}
use Rattle.lf.specs.Typing.{Signature, IsTypedSubstitution, IsSignature}
use Rattle.lf.specs.Subordination.{Block, AreTypedBlocks, IsTypedBlock, Member}
use Rattle.lf_unification.specs.Rigid.{first, here, in_constant}
use Rattle.lf_unification.specs.Solving.{IsWellFormed}
use Rattle.lf_unification.specs.Steps.{no_step, occurs_inside}
use Rattle.lf_unification.specs.Unifiers.{Store, on_left}
use Rattle.lf_totality.specs.Examples.{var}
use Rattle.lf_coverage.specs.Listed.{with_case, without_case, no_offer}
use Rattle.lf_coverage.proofs.ConstantOnNew.{on_new_is_solved, on_new_store}
use Rattle.lf_coverage.proofs.ExamplesUnified.{no_argument}
use Rattle.lf_coverage.proofs.Parts.{none_some}
use Rattle.lf_numbered.specs.EntryConstants.{with_entries}
use Rattle.lf_numbered.specs.NewBlock.{with_new_block}
use Rattle.lf_numbered.specs.NumberedCallsOrder.{AreInNumberedOrder, HasNumberedRank, entry_rank, next_in_order, one_in_order}
use Rattle.lf_numbered.specs.NumberedCase.{NumberedCase}
use Rattle.lf_numbered.specs.NumberedSplits.{IsOfferTo, NumberedOffer, NumberedUnifierFinds, of_case, of_new_block}
use Rattle.lf_numbered.specs.NumberedSplitsExamples.{Bare, exp}
use Rattle.lf_numbered.specs.OwnStores.{IsNumberedOffer, numbered_store, offer_entry}
use Rattle.lf_numbered.specs.WorkedCallsEntries.{OwnTermGivesNoCase, newer_case, number_block, own_case, own_offer}
use Rattle.lf_numbered.specs.TypedNumbered.{IsTypedNumberedCase}
use Rattle.lf_numbered.proofs.EntrySignature.{with_entries_is_signature}
use Rattle.lf_numbered.proofs.NumberedCallsLaws.{answered_by_number_is_split_answer}
use Rattle.lf_numbered.proofs.NumberedSplitsExamples.{bare_ok, free}
use Rattle.lf_numbered.proofs.OffersListed.{EntriesAreIn, NewEntriesAreIn, entry_member, heads_are_in}
use Rattle.lf_numbered.proofs.OwnStoresNewBlock.{new_block_stays_typed}
use Rattle.lf_numbered.proofs.OwnStoresStart.{numbered_store_is_ready}
use Rattle.lf_numbered.proofs.RanksListed.{only_entry_rank_in}
use Rattle.lf_numbered.proofs.VariableTyped.{value_is_typed, variable_is_typed}

abbrev worlds : List Block
worlds = number_block ∷ []

blocks : AreTypedBlocks Bare worlds
blocks B (inl e) = subst (λ D. IsTypedBlock Bare D) (sym e) ((tt, (star, refl, tt)), (star, refl, tt))
blocks B (inr m) = absurd m

own_typed : IsTypedNumberedCase Bare 2 worlds own_case
own_typed = variable_is_typed Bare 2 worlds 0 1 refl own_case.blocks (inl refl, ((λ i. put (base 0) (var 0)), values, refl), (tt, tt), tt)
  where
    values : IsTypedSubstitution (with_entries Bare 2 worlds) (exp ∷ []) (exp ∷ []) (λ i. put (base 0) (var 0))
    values = value_is_typed (with_entries Bare 2 worlds) exp (exp ∷ []) (λ i. put (base 0) (var 0)) (refl, (exp, refl, refl))

-- The two heads: c.x for a new block variable, and b.x.
abbrev new_case : NumberedCase
new_case = with_new_block number_block own_case

abbrev new_offer : NumberedOffer
new_offer = record { case = new_case; variable = 1; type = exp; head = constant 3; terms = app (var 0) nil; left = exp }

abbrev offers : List NumberedOffer
offers = new_offer ∷ own_offer ∷ []

new_offered : IsNumberedOffer Bare 2 new_case exp (constant 3) (app (var 0) nil) exp
new_offered = offer_entry 3 (app (var 0) nil) _ refl refl refl

own_offered : IsNumberedOffer Bare 2 own_case exp (constant 2) (app (var 0) nil) exp
own_offered = offer_entry 2 (app (var 0) nil) _ refl refl refl

each : (o : NumberedOffer) → Member o offers → IsOfferTo Bare 2 worlds own_case 0 exp o
each o (inl e) = subst (IsOfferTo Bare 2 worlds own_case 0 exp) (sym e) (of_new_block number_block 3 (app (var 0) nil) exp (inl refl) refl new_offered)
each o (inr (inl e)) = subst (IsOfferTo Bare 2 worlds own_case 0 exp) (sym e) (of_case (constant 2) (app (var 0) nil) exp own_offered)
each o (inr (inr m)) = absurd m

old_entries : EntriesAreIn Bare 2 own_case 0 exp offers
old_entries zero U V o e t = absurd (none_some o)
old_entries (suc zero) U V o e t = absurd (none_some o)
old_entries (suc (suc zero)) U V o e t = entry_member own_case 0 exp offers 2 _ U _ V o e (inr (inl refl))
old_entries (suc (suc (suc c))) U V o e t = absurd (none_some o)

new_entries : NewEntriesAreIn Bare 2 own_case 0 exp offers number_block
new_entries zero U V n o e t = absurd (none_some o)
new_entries (suc zero) U V n o e t = absurd (none_some o)
new_entries (suc (suc zero)) U V n o e t = absurd (none_some (sym n))
new_entries (suc (suc (suc zero))) U V n o e t = entry_member new_case 1 exp offers 3 _ U _ V o e (inl refl)
new_entries (suc (suc (suc (suc c)))) U V n o e t = absurd (none_some o)

every : (o : NumberedOffer) → IsOfferTo Bare 2 worlds own_case 0 exp o → Member o offers
every = heads_are_in Bare 2 own_case 0 exp offers worlds refl (λ k V s t. absurd (none_some s)) old_entries (new_entries, tt)

abbrev ranks : List (List ℕ)
ranks = (1 ∷ 0 ∷ 0 ∷ 0 ∷ []) ∷ (1 ∷ 0 ∷ 0 ∷ 1 ∷ []) ∷ []

in_order : AreInNumberedOrder 2 worlds own_case offers ranks
in_order = next_in_order (entry_rank 3 0 _ refl refl refl) (inr (refl, inr (refl, inr (refl, inl (omega arith))))) (one_in_order (entry_rank 2 0 _ refl refl refl))

every_rank : (o : NumberedOffer) (r : List ℕ) → Member o offers → HasNumberedRank 2 worlds own_case o r → Member r ranks
every_rank o r (inl e) h = only_entry_rank_in 2 number_block own_case o 3 _ e refl refl ranks (inl refl) r h
every_rank o r (inr (inl e)) h = only_entry_rank_in 2 number_block own_case o 2 _ e refl refl ranks (inr (inl refl)) r h
every_rank o r (inr (inr m)) h = absurd m

-- M = b.x M
abbrev on_itself : Term
on_itself = root (constant 2) (app (root (metavariable 0) nil) nil)

own_refuted : (below : ℕ → ℕ → Bool) → NumberedUnifierFinds Bare 2 below own_offer star None
own_refuted below = record {
  reached = _;
  run = no_step;
  refuted = occurs_inside {A = exp} on_left [] 0 [] on_itself exp refl no_argument (λ l. l) (record {
    depth = 0;
    context = [];
    context_is = refl;
    ys = [];
    is_pattern = no_argument;
    at = in_constant (first here);
    inside = λ e. (let p : on_itself ≡ root (metavariable 0) nil = e in cc);
  });
}

-- M = c.x N is solved: N is free.
abbrev Entries : Signature
Entries = with_entries Bare 2 (number_block ∷ number_block ∷ [])

among : AreTypedBlocks Bare (number_block ∷ number_block ∷ [])
among B (inl e) = blocks B (inl e)
among B (inr m) = blocks B m

entries_ok : IsSignature Entries
entries_ok = with_entries_is_signature Bare bare_ok 2 free (number_block ∷ number_block ∷ []) among

module _ (below : ℕ → ℕ → Bool) where
  abbrev store : Store
  store = numbered_store below new_case 1 exp (constant 3) (app (var 0) nil) exp star

  ready : IsWellFormed Entries store
  ready = numbered_store_is_ready Bare bare_ok worlds blocks 2 free below new_case (new_block_stays_typed Bare bare_ok worlds blocks 2 free own_case own_typed number_block (inl refl)) 1 exp (exp, refl, refl) (constant 3) (app (var 0) nil) exp new_offered star refl

  new_found : NumberedUnifierFinds Bare 2 below new_offer star (Some newer_case)
  new_found = (on_new_store Entries entries_ok 0 0 3 refl refl refl, on_new_is_solved Entries entries_ok 0 0 3 refl refl refl ready, refl)

pub own_term_gives_no_case : OwnTermGivesNoCase
own_term_gives_no_case below s = (
  own_refuted below,
  answered_by_number_is_split_answer Bare bare_ok worlds blocks below s 2 free own_case own_typed 0 (newer_case ∷ []) (record {
    unified = record {
      type = exp;
      at = refl;
      offers = offers;
      each = each;
      every = every;
      listed = with_case (record { kind = star; of_family = refl; finds = new_found below }) (without_case (record { kind = star; of_family = refl; finds = own_refuted below }) no_offer);
    };
    ranks = ranks;
    in_order = in_order;
    every_rank = λ o r f h. every_rank o r (every o f) h;
  }),
)
