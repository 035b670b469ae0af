-- Worked: the signature of circular types is one, and its case is typed.
use Rattle.std.proofs.Common.{◌≡◌, ℕ, zero, suc, [], ◌∷◌, refl, sym, ap, ◌∙◌, subst}
use Rattle.std.specs.Prelude.{Some}
use Rattle.lf.specs.Syntax.{base, LfType, Kind, pi, kind_pi, star, weaken}
use Rattle.lf.specs.Typing.{IsKind, IsType, IsSignature, Signature, TypeAt}
use Rattle.lf.specs.Subordination.{AreTypedBlocks}
use Rattle.lf_totality.specs.Examples.{nat, var}
use Rattle.lf_totality.specs.ExamplesGroups.{on_one}
use Rattle.lf_coverage.proofs.Parts.{none_some, some_same}
use Rattle.lf_numbered.specs.EntryConstants.{IsFreeFrom, with_entries}
use Rattle.lf_numbered.specs.LeftExamples.{Circle, circle_case, circle_index, circle_kinds, circle_types}
use Rattle.lf_numbered.specs.OwnTerms.{own_terms, TypeOnOwnTerms}
use Rattle.lf_numbered.specs.TypedNumbered.{IsTypedNumberedCase}
use Rattle.lf_numbered.proofs.EntrySignature.{with_entries_is_signature}
use Rattle.lf_numbered.proofs.FreeFrom.{free_from}

abbrev pub two_nats : Kind
two_nats = kind_pi nat (kind_pi nat star)

-- Its signature
nat_typed : IsType Circle [] nat
nat_typed = (star, refl, tt)

k_typed : IsType Circle (nat ∷ []) (pi (on_one 1 (var 0)) nat)
k_typed = ((_, refl, ((nat, refl, refl), tt)), (star, refl, tt))

w_typed : IsType Circle (pi (on_one 1 (var 0)) nat ∷ nat ∷ []) (on_one 1 (var 1))
w_typed = (_, refl, ((nat, (nat, refl, refl), refl), tt))

x_typed : IsType Circle (on_one 1 (var 1) ∷ pi (on_one 1 (var 0)) nat ∷ nat ∷ []) circle_index
x_typed = (_, refl, ((nat, (nat, (nat, refl, refl), refl), refl), ((pi (on_one 1 (var 2)) nat, (pi (on_one 1 (var 1)) nat, refl, refl), ((on_one 1 (var 2), refl, refl), refl)), tt)))

pub circle_ok : IsSignature Circle
circle_ok = record { types_ok = types; kinds_ok = kinds }
  where
    types : (c : ℕ) (A : LfType) → circle_types c ≡ Some A → IsType Circle [] A
    types zero A e = subst (IsType Circle []) (some_same e) (star, refl, tt)
    types (suc zero) A e = subst (IsType Circle []) (some_same e) (star, refl, tt)
    types (suc (suc zero)) A e = subst (IsType Circle []) (some_same e) (_, refl, ((nat, refl, refl), tt))
    types (suc (suc (suc zero))) A e = subst (IsType Circle []) (some_same e) ((star, refl, tt), (_, refl, ((nat, refl, refl), ((nat, refl, refl), tt))))
    types (suc (suc (suc (suc c)))) A e = absurd (none_some e)

    kinds : (f : ℕ) (K : Kind) → circle_kinds f ≡ Some K → IsKind Circle [] K
    kinds zero K e = subst (IsKind Circle []) (some_same e) tt
    kinds (suc zero) K e = subst (IsKind Circle []) (some_same e) ((star, refl, tt), tt)
    kinds (suc (suc zero)) K e = subst (IsKind Circle []) (some_same e) ((star, refl, tt), ((star, refl, tt), tt))
    kinds (suc (suc (suc zero))) K e = subst (IsKind Circle []) (some_same e) (nat_typed, (k_typed, (w_typed, (x_typed, tt))))
    kinds (suc (suc (suc (suc f)))) K e = absurd (none_some e)

pub no_blocks : AreTypedBlocks Circle []
no_blocks B m = absurd m

pub free : IsFreeFrom Circle 4
free = free_from Circle 4 (λ c. refl) (λ a. refl)

own : (i : ℕ) (A : LfType) → TypeAt circle_case.variables i A → TypeOnOwnTerms (own_terms 4 []) A
own zero A e = subst (TypeOnOwnTerms (own_terms 4 [])) (sym e) (tt, ((tt, tt), tt))
own (suc zero) A (B, g, e) = subst (TypeOnOwnTerms (own_terms 4 [])) (sym (e ∙ ap weaken g)) (tt, tt)
own (suc (suc zero)) A (B, (D, g, p), e) = subst (TypeOnOwnTerms (own_terms 4 [])) (sym (e ∙ ap weaken (p ∙ ap weaken g))) ((tt, tt), tt)
own (suc (suc (suc zero))) A (B, (D, (F, g, q), p), e) = subst (TypeOnOwnTerms (own_terms 4 [])) (sym (e ∙ ap weaken (p ∙ ap weaken (q ∙ ap weaken g)))) tt
own (suc (suc (suc (suc i)))) A (B, (D, (F, (H, g, r), q), p), e) = absurd g

pub circle_typed : IsTypedNumberedCase Circle 4 [] circle_case
circle_typed = record {
  variables = record { variables = ((((tt, nat_typed), k_typed), w_typed), x_typed); on_own_terms = own; blocks = tt };
  local = ((((tt, nat_typed), k_typed), w_typed), x_typed);
  local_on_own = tt;
  given = tt;
  given_on_own = tt;
  arguments = ((base 2, (base 2, refl, refl)), tt);
  arguments_on_own = (tt, tt);
}

abbrev pub Entries : Signature
Entries = with_entries Circle 4 []

pub entries_ok : IsSignature Entries
entries_ok = with_entries_is_signature Circle circle_ok 4 free [] no_blocks
