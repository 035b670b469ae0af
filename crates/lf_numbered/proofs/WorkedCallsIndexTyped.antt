-- The worked run in which an index is split first: its signature is one, and f N X and f z X are typed.
use Rattle.std.proofs.Common.{◌≡◌, ℕ, zero, suc, [], refl, subst}
use Rattle.std.specs.Prelude.{Some}
use Rattle.lf.specs.Syntax.{Kind, LfType, base, pi, star}
use Rattle.lf.specs.Typing.{IsKind, IsType, IsSignature}
use Rattle.lf.specs.Subordination.{AreTypedBlocks}
use Rattle.lf_totality.specs.Examples.{nat, z}
use Rattle.lf_totality.specs.ExamplesGroups.{on_one}
use Rattle.lf_coverage.proofs.Parts.{none_some, some_same}
use Rattle.lf_coverage.proofs.UsedVariables.{types_of_one}
use Rattle.lf_numbered.specs.EntryConstants.{IsFreeFrom}
use Rattle.lf_numbered.specs.OwnTerms.{own_terms, TypeOnOwnTerms}
use Rattle.lf_numbered.specs.WorkedCallsIndex.{Odd, f_goal, f_zero, odd_kinds, odd_one, odd_types}
use Rattle.lf_numbered.specs.TypedNumbered.{IsTypedNumberedCase}
use Rattle.lf_numbered.proofs.FreeFrom.{free_from}
use Rattle.lf_numbered.proofs.VariableTyped.{index_is_typed}

pub ok : IsSignature Odd
ok = record { types_ok = types; kinds_ok = kinds }
  where
    types : (c : ℕ) (A : LfType) → odd_types c ≡ Some A → IsType Odd [] A
    types zero A e = subst (IsType Odd []) (some_same e) (star, refl, tt)
    types (suc zero) A e = subst (IsType Odd []) (some_same e) ((star, refl, tt), (star, refl, tt))
    types (suc (suc zero)) A e = subst (IsType Odd []) (some_same e) (_, refl, ((pi nat nat, refl, ((nat, refl, refl), refl)), tt))
    types (suc (suc (suc zero))) A e = subst (IsType Odd []) (some_same e) (_, refl, ((pi nat nat, refl, ((nat, refl, refl), refl)), ((odd_one, refl, refl), tt)))
    types (suc (suc (suc (suc c)))) A e = absurd (none_some e)

    kinds : (f : ℕ) (K : Kind) → odd_kinds f ≡ Some K → IsKind Odd [] K
    kinds zero K e = subst (IsKind Odd []) (some_same e) tt
    kinds (suc zero) K e = subst (IsKind Odd []) (some_same e) ((star, refl, tt), tt)
    kinds (suc (suc zero)) K e = subst (IsKind Odd []) (some_same e) ((star, refl, tt), ((_, refl, ((nat, refl, refl), tt)), tt))
    kinds (suc (suc (suc f))) K e = absurd (none_some e)

pub no_blocks : AreTypedBlocks Odd []
no_blocks B m = absurd m

pub free : IsFreeFrom Odd 4
free = free_from Odd 4 (λ c. refl) (λ a. refl)

pub goal_typed : IsTypedNumberedCase Odd 4 [] f_goal
goal_typed = index_is_typed Odd 4 [] 0 1 2 refl refl

pub zero_typed : IsTypedNumberedCase Odd 4 [] f_zero
zero_typed = record {
  variables = record { variables = (tt, (_, refl, ((nat, refl, refl), tt))); on_own_terms = types_of_one (λ i A. TypeOnOwnTerms (own_terms 4 []) A) (on_one 1 z) ((tt, tt), tt); blocks = tt };
  local = (tt, (_, refl, ((nat, refl, refl), tt)));
  local_on_own = tt;
  given = tt;
  given_on_own = tt;
  arguments = ((base 0, (base 0, refl, refl)), ((base 1, (base 1, refl, refl)), tt));
  arguments_on_own = ((tt, tt), (tt, tt));
}
