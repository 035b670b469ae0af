-- The worked split at which two entries clash in one type.
use Rattle.std.proofs.Common.{◌≡◌, ℕ, zero, suc, List, [], ◌∷◌, inl, inr, refl, sym, subst, arith}
use Rattle.std.specs.Prelude.{Bool, None}
use Rattle.lf.specs.Rules.{stop}
use Rattle.lf.specs.Syntax.{constant, Kind, root, nil, LfType, base, kind_pi, pi, star}
use Rattle.lf.specs.Substitution.{keep}
use Rattle.lf.specs.Subordination.{Member}
use Rattle.lf_unification.specs.Putting.{put_nothing, some_at_bound, some_nowhere}
use Rattle.lf_unification.specs.Steps.{bind, constants_differ, next_equation, no_step, put_bindings, then_run}
use Rattle.lf_unification.specs.Unifiers.{on_right}
use Rattle.lf_totality.specs.Examples.{exp, var}
use Rattle.lf_coverage.specs.ExamplesTwins.{Twins, same, twin_block, twin_worlds}
use Rattle.lf_coverage.specs.Listed.{without_case, no_offer}
use Rattle.lf_coverage.proofs.ExamplesTwinsRun.{twins_ok, twins_typed}
use Rattle.lf_coverage.proofs.ExamplesUnified.{no_argument}
use Rattle.lf_coverage.proofs.Parts.{none_some, some_same}
use Rattle.lf_coverage.proofs.UsedVariables.{types_of_one}
use Rattle.lf_numbered.specs.EntryConstants.{IsFreeFrom}
use Rattle.lf_numbered.specs.NumberedCallsOrder.{HasNumberedRank, one_in_order, signature_rank}
use Rattle.lf_numbered.specs.NumberedSplits.{IsOfferTo, NumberedOffer, NumberedUnifierFinds, of_case}
use Rattle.lf_numbered.specs.OwnStores.{offer_signature}
use Rattle.lf_numbered.specs.OwnTerms.{own_terms, TypeOnOwnTerms}
use Rattle.lf_numbered.specs.WorkedCallsStores.{TwinsGiveNoCase, two_twins}
use Rattle.lf_numbered.specs.TypedNumbered.{IsTypedNumberedCase}
use Rattle.lf_numbered.proofs.FreeFrom.{free_from}
use Rattle.lf_numbered.proofs.NumberedCallsLaws.{answered_by_number_is_split_answer}
use Rattle.lf_numbered.proofs.OffersListed.{ConstantsAreIn, EntriesAreIn, NewEntriesAreIn, heads_are_in, offer_with, other_target}
use Rattle.lf_numbered.proofs.RanksListed.{signature_rank_in}
use Rattle.lf_numbered.proofs.WorkedCallsOne.{b_x, entry_found, is_entry}

pub free : IsFreeFrom Twins 3
free = free_from Twins 3 (λ c. refl) (λ a. refl)

-- Z : same b.x c.x
abbrev of_both : LfType
of_both = same (root (constant 3) nil) (root (constant 5) nil)

abbrev alike_type : LfType
alike_type = pi exp (same (var 0) (var 0))

abbrev same_kind : Kind
same_kind = kind_pi exp (kind_pi exp star)

two_typed : IsTypedNumberedCase Twins 3 twin_worlds two_twins
two_typed = record {
  variables = record { variables = (tt, (_, refl, ((exp, refl, refl), ((exp, refl, refl), tt)))); on_own_terms = types_of_one (λ i A. TypeOnOwnTerms (own_terms 3 two_twins.blocks) A) of_both (((nil, refl), tt), (((nil, refl), tt), tt)); blocks = (inl refl, (keep, (λ i A g. absurd g), refl), tt, (inl refl, (keep, (λ i A g. absurd g), refl), tt, tt)) };
  local = (tt, (_, refl, ((exp, refl, refl), ((exp, refl, refl), tt))));
  local_on_own = tt;
  given = tt;
  given_on_own = tt;
  arguments = ((base 0, (base 0, refl, refl)), ((base 0, (base 0, refl, refl)), ((base 1, (base 1, refl, refl)), tt)));
  arguments_on_own = (((nil, refl), tt), (((nil, refl), tt), ((tt, tt))));
}

-- alike alone is offered.
abbrev the_offer : NumberedOffer
the_offer = record { case = two_twins; variable = 0; type = of_both; head = constant 0; terms = nil; left = alike_type }

abbrev offers : List NumberedOffer
offers = the_offer ∷ []

each : (o : NumberedOffer) → Member o offers → IsOfferTo Twins 3 twin_worlds two_twins 0 of_both o
each o (inl e) = subst (IsOfferTo Twins 3 twin_worlds two_twins 0 of_both) (sym e) (of_case (constant 0) nil alike_type (offer_signature 0 alike_type refl refl))
each o (inr m) = absurd m

constants : ConstantsAreIn Twins 3 two_twins 0 of_both offers
constants zero V e t = subst (λ A. Member (offer_with two_twins 0 of_both (constant 0) nil A) offers) (some_same e) (inl refl)
constants (suc k) V e t = absurd (none_some e)

old_entries : EntriesAreIn Twins 3 two_twins 0 of_both offers
old_entries zero U V o e t = absurd (none_some o)
old_entries (suc zero) U V o e t = absurd (none_some o)
old_entries (suc (suc zero)) U V o e t = absurd (none_some o)
old_entries (suc (suc (suc zero))) U V o e t = absurd (other_target e t refl)
old_entries (suc (suc (suc (suc zero)))) U V o e t = absurd (other_target e t refl)
old_entries (suc (suc (suc (suc (suc zero))))) U V o e t = absurd (other_target e t refl)
old_entries (suc (suc (suc (suc (suc (suc zero)))))) U V o e t = absurd (other_target e t refl)
old_entries (suc (suc (suc (suc (suc (suc (suc c))))))) U V o e t = absurd (none_some o)

new_entries : NewEntriesAreIn Twins 3 two_twins 0 of_both offers twin_block
new_entries zero U V n o e t = absurd (none_some o)
new_entries (suc zero) U V n o e t = absurd (none_some o)
new_entries (suc (suc zero)) U V n o e t = absurd (none_some o)
new_entries (suc (suc (suc zero))) U V n o e t = absurd (none_some (sym n))
new_entries (suc (suc (suc (suc zero)))) U V n o e t = absurd (none_some (sym n))
new_entries (suc (suc (suc (suc (suc zero))))) U V n o e t = absurd (none_some (sym n))
new_entries (suc (suc (suc (suc (suc (suc zero)))))) U V n o e t = absurd (none_some (sym n))
new_entries (suc (suc (suc (suc (suc (suc (suc zero))))))) U V n o e t = absurd (other_target e t refl)
new_entries (suc (suc (suc (suc (suc (suc (suc (suc zero)))))))) U V n o e t = absurd (other_target e t refl)
new_entries (suc (suc (suc (suc (suc (suc (suc (suc (suc c))))))))) U V n o e t = absurd (none_some o)

every : (o : NumberedOffer) → IsOfferTo Twins 3 twin_worlds two_twins 0 of_both o → Member o offers
every = heads_are_in Twins 3 two_twins 0 of_both offers twin_worlds refl constants old_entries (new_entries, tt)

every_rank : (o : NumberedOffer) (r : List ℕ) → Member o offers → HasNumberedRank 3 twin_worlds two_twins o r → Member r ((0 ∷ 0 ∷ []) ∷ [])
every_rank o r (inl e) h = signature_rank_in 3 twin_worlds two_twins o 0 e refl refl ((0 ∷ 0 ∷ []) ∷ []) (inl refl) r h
every_rank o r (inr m) h = absurd m

differ : ◌≡◌ {A = ℕ} 5 3 → ⊥
differ e = omega (arith, e)

-- X' = b.x, and then c.x = b.x
refuted : (below : ℕ → ℕ → Bool) → NumberedUnifierFinds Twins 3 below the_offer same_kind None
refuted below = record {
  reached = _;
  run =
      then_run (next_equation (_ ∷ []) _ (_ ∷ []))
      (then_run (bind {A = exp} on_right [] 0 [] b_x exp refl tt no_argument (entry_found _))
      (then_run (next_equation (_ ∷ []) _ [])
      (then_run (put_bindings put_nothing (some_at_bound is_entry (inl refl) some_nowhere stop put_nothing)) no_step)));
  refuted = constants_differ differ;
}

pub twins_give_no_case : TwinsGiveNoCase
twins_give_no_case below s = answered_by_number_is_split_answer Twins twins_ok twin_worlds twins_typed below s 3 free two_twins two_typed 0 [] (record {
  unified = record {
    type = of_both;
    at = refl;
    offers = offers;
    each = each;
    every = every;
    listed = without_case (record { kind = same_kind; of_family = refl; finds = refuted below }) no_offer;
  };
  ranks = (0 ∷ 0 ∷ []) ∷ [];
  in_order = one_in_order (signature_rank 0 refl refl);
  every_rank = λ o r f h. every_rank o r (every o f) h;
})
