-- The heads that are offered to the output of the worked goal that is raised: g alone.
use Rattle.std.proofs.Common.{◌≡◌, ℕ, zero, suc, ◌<◌, List, [], ◌∷◌, inl, inr, refl, sym, ap, subst, arith}
use Rattle.std.specs.Prelude.{Some}
use Rattle.lf.specs.Syntax.{Head, constant, lambda, Spine, nil, LfType, arrow, base, pi, star}
use Rattle.lf.specs.AtOnce.{in_front}
use Rattle.lf.specs.Substitution.{Image, keep, put}
use Rattle.lf.specs.Typing.{TypeAt, IsTypedSubstitution}
use Rattle.lf.specs.Variables.{binders, target}
use Rattle.lf.specs.Subordination.{Member}
use Rattle.lf_totality.specs.Examples.{applied_to}
use Rattle.lf_coverage.proofs.Parts.{none_some, some_same}
use Rattle.lf_coverage.proofs.UsedVariables.{types_of_two}
use Rattle.lf_numbered.specs.EntryConstants.{with_entries}
use Rattle.lf_numbered.specs.NumberedCallsOrder.{HasNumberedRank}
use Rattle.lf_numbered.specs.NumberedSplits.{IsOfferTo, NumberedOffer, of_case, of_new_block}
use Rattle.lf_numbered.specs.OwnStores.{IsNumberedOffer, offer_entry, offer_signature, offer_taken}
use Rattle.lf_numbered.specs.OwnTerms.{TypeOnOwnTerms, own_terms}
use Rattle.lf_numbered.specs.WorkedCallsRaised.{Raising, d_kind, d_of, fam_a, fam_b, g_type, local_block, raised_goal, raising_block, raising_worlds}
use Rattle.lf_numbered.specs.TypedNumbered.{IsTypedNumberedCase}
use Rattle.lf_numbered.proofs.OffersListed.{NewEntriesAreIn, new_heads_are_in, offer_with, other_target}
use Rattle.lf_numbered.proofs.RanksListed.{signature_rank_in}
use Rattle.lf_numbered.proofs.VariableTyped.{value_is_typed}

-- F, eta-long
abbrev on_function : ℕ → Image
on_function = in_front (put (arrow (base 3) (base 0)) (lambda (applied_to 2 0))) keep

abbrev pub variables : List LfType
variables = pi fam_a (d_of (applied_to 1 0)) ∷ pi fam_a fam_b ∷ []

on_function_typed : IsTypedSubstitution (with_entries Raising 5 (raising_block ∷ [])) (pi fam_a fam_b ∷ []) variables on_function
on_function_typed = value_is_typed (with_entries Raising 5 (raising_block ∷ [])) (pi fam_a fam_b) variables on_function (refl, (pi fam_a fam_b, (pi fam_a fam_b, (pi fam_a fam_b, refl, refl), refl), ((fam_a, refl, refl), refl)))

pub raised_typed : IsTypedNumberedCase Raising 5 raising_worlds raised_goal
raised_typed = record {
  variables = record { variables = ((tt, ((star, refl, tt), (star, refl, tt))), ((star, refl, tt), (d_kind, refl, ((pi fam_a fam_b, (pi fam_a fam_b, refl, refl), ((fam_a, refl, refl), refl)), tt)))); on_own_terms = types_of_two (λ i A. TypeOnOwnTerms (own_terms 5 raised_goal.blocks) A) (pi fam_a (d_of (applied_to 1 0))) (pi fam_a fam_b) (tt, ((tt, tt), tt)) (tt, tt); blocks = (inl refl, (on_function, on_function_typed, refl), ((tt, tt), tt), tt) };
  local = (((tt, ((star, refl, tt), (star, refl, tt))), ((star, refl, tt), (d_kind, refl, ((pi fam_a fam_b, (pi fam_a fam_b, refl, refl), ((fam_a, refl, refl), refl)), tt)))), (star, refl, tt));
  local_on_own = (tt, tt);
  given = tt;
  given_on_own = tt;
  arguments = ((base 1, (arrow (base 3) (base 1), refl, ((base 3, refl, refl), refl))), tt);
  arguments_on_own = ((tt, tt), tt);
}

-- Y : {x:a} d (F x)
abbrev pub of_output : LfType
of_output = pi fam_a (d_of (applied_to 2 0))

-- g alone is offered.
abbrev pub the_offer : NumberedOffer
the_offer = record { case = raised_goal; variable = 0; type = of_output; head = constant 0; terms = nil; left = g_type }

abbrev pub offers : List NumberedOffer
offers = the_offer ∷ []

pub g_offered : IsNumberedOffer Raising 5 raised_goal of_output (constant 0) nil g_type
g_offered = offer_signature 0 g_type refl refl

pub each : (o : NumberedOffer) → Member o offers → IsOfferTo Raising 5 raising_worlds raised_goal 0 of_output o
each o (inl e) = subst (IsOfferTo Raising 5 raising_worlds raised_goal 0 of_output) (sym e) (of_case (constant 0) nil g_type g_offered)
each o (inr m) = absurd m

no_taken : (j : ℕ) (B : LfType) → j < 1 → TypeAt (binders raised_goal.variables of_output) j B → target B ≡ 1 → ⊥
no_taken zero B l g t = by (ap target g) t
  where
    by : {n : ℕ} → n ≡ 3 → n ≡ 1 → ⊥
    by e f = omega (e, f, arith)
no_taken (suc j) B l g t = omega (l, arith)

of_this : (h : Head) (U : Spine) (A : LfType) → IsNumberedOffer Raising 5 raised_goal of_output h U A → Member (offer_with raised_goal 0 of_output h U A) offers
of_this h U A (offer_signature zero V e t) = subst (λ B. Member (offer_with raised_goal 0 of_output (constant 0) nil B) offers) (some_same e) (inl refl)
of_this h U A (offer_signature (suc k) V e t) = absurd (none_some e)
of_this h U A (offer_taken j B l g t) = absurd (no_taken j B l g t)
of_this h U A (offer_entry c S V o e t) = absurd (none c S V o e t)
  where
    none : (c : ℕ) (S : Spine) (V : LfType) → own_terms 5 raised_goal.blocks c ≡ Some S → (with_entries Raising 5 (raising_block ∷ [])).types c ≡ Some V → target V ≡ 1 → ⊥
    none zero S V o e t = none_some o
    none (suc zero) S V o e t = none_some o
    none (suc (suc zero)) S V o e t = none_some o
    none (suc (suc (suc zero))) S V o e t = none_some o
    none (suc (suc (suc (suc zero)))) S V o e t = none_some o
    none (suc (suc (suc (suc (suc zero))))) S V o e t = other_target e t refl
    none (suc (suc (suc (suc (suc (suc c)))))) S V o e t = none_some o

-- Of new block variables nothing is offered.
first_entries : NewEntriesAreIn Raising 5 raised_goal 0 of_output offers raising_block
first_entries zero S V n o e t = absurd (none_some o)
first_entries (suc zero) S V n o e t = absurd (none_some o)
first_entries (suc (suc zero)) S V n o e t = absurd (none_some o)
first_entries (suc (suc (suc zero))) S V n o e t = absurd (none_some o)
first_entries (suc (suc (suc (suc zero)))) S V n o e t = absurd (none_some o)
first_entries (suc (suc (suc (suc (suc zero))))) S V n o e t = absurd (other_target e t refl)
first_entries (suc (suc (suc (suc (suc (suc zero)))))) S V n o e t = absurd (other_target e t refl)
first_entries (suc (suc (suc (suc (suc (suc (suc c))))))) S V n o e t = absurd (none_some o)

second_entries : NewEntriesAreIn Raising 5 raised_goal 0 of_output offers local_block
second_entries zero S V n o e t = absurd (none_some o)
second_entries (suc zero) S V n o e t = absurd (none_some o)
second_entries (suc (suc zero)) S V n o e t = absurd (none_some o)
second_entries (suc (suc (suc zero))) S V n o e t = absurd (none_some o)
second_entries (suc (suc (suc (suc zero)))) S V n o e t = absurd (none_some o)
second_entries (suc (suc (suc (suc (suc zero))))) S V n o e t = absurd (other_target e t refl)
second_entries (suc (suc (suc (suc (suc (suc zero)))))) S V n o e t = absurd (other_target e t refl)
second_entries (suc (suc (suc (suc (suc (suc (suc c))))))) S V n o e t = absurd (none_some o)

pub every : (o : NumberedOffer) → IsOfferTo Raising 5 raising_worlds raised_goal 0 of_output o → Member o offers
every o (of_case h U A f) = of_this h U A f
every o (of_new_block B c U A m n f) = new_heads_are_in Raising 5 raised_goal 0 of_output offers raising_worlds (first_entries, (second_entries, tt)) B m c U A n f

pub every_rank : (o : NumberedOffer) (r : List ℕ) → Member o offers → HasNumberedRank 5 raising_worlds raised_goal o r → Member r ((0 ∷ 0 ∷ []) ∷ [])
every_rank o r (inl e) h = signature_rank_in 5 raising_worlds raised_goal o 0 e refl refl ((0 ∷ 0 ∷ []) ∷ []) (inl refl) r h
every_rank o r (inr m) h = absurd m
