-- Worked: stores at the places of a pattern that may be handed to solving, and one that may not.
use Rattle.std.proofs.Common.{◌≡◌, ℕ, zero, suc, [], ◌∷◌, inl, inr, refl, sym, ap, ◌∙◌, subst}
use Rattle.std.specs.Prelude.{Some}
use Rattle.lf.specs.Syntax.{LfType, Kind, app, arrow, base, constant, kind_pi, nil, pi, root, star, weaken}
use Rattle.lf.specs.Substitution.{keep, reduce, substitute_type}
use Rattle.lf.specs.AtOnce.{in_front}
use Rattle.lf.specs.Subordination.{AreTypedBlocks, Block}
use Rattle.lf.specs.Typing.{IsContext, IsKind, IsSignature, IsType, IsTypedSubstitution, TypeAt}
use Rattle.lf.specs.Variables.{onto}
use Rattle.lf_totality.specs.Examples.{Copying, cp_kind, exp, var}
use Rattle.lf_totality.specs.ExamplesGroups.{on_one}
use Rattle.lf_coverage.specs.ExamplesCopying.{copy_entry_head, copy_worlds}
use Rattle.lf_coverage.proofs.Parts.{some_same}
use Rattle.lf_numbered.specs.EntryConstants.{with_entries}
use Rattle.lf_numbered.specs.ExamplesNumbered.{Turning, first_block, two_copies}
use Rattle.lf_numbered.specs.MeetsReadyExamples.{loose_head, loose_kind}
use Rattle.lf_numbered.specs.NumberedCalls.{NumberedMatchedNeeds}
use Rattle.lf_numbered.specs.OwnTerms.{TypeOnOwnTerms, blocks_of, own_terms}
use Rattle.lf_numbered.specs.ReadyPlacesExamples.{CopyPlacesAreReadyToSolve, LooseIsNotReadyToSolve, OnePlaceHasItsTerms, two_on}
use Rattle.lf_numbered.specs.TypedNumbered.{IsTypedNumberedCase}
use Rattle.lf_numbered.proofs.FreeFrom.{free_from}
use Rattle.lf_numbered.proofs.MeetsReadyLoose.{skeletons_are_not_enough}
use Rattle.lf_numbered.proofs.NumberedAnswersExamples.{two_copies_are_stuck}
use Rattle.lf_numbered.proofs.NumberedNeedsFor.{head_is_for}
use Rattle.lf_numbered.proofs.ReadyPlaces.{needed_places_are_ready_to_solve}

pub copy_places_are_ready_to_solve : CopyPlacesAreReadyToSolve
copy_places_are_ready_to_solve = needed_places_are_ready_to_solve Copying 4 copy_worlds two_copies copy_entry_head two_copies_are_stuck.0 cp_kind refl

pub loose_is_not_ready_to_solve : LooseIsNotReadyToSolve
loose_is_not_ready_to_solve = (((tt, (arrow (base 0) (base 1), refl, ((base 0, refl, refl), refl))), tt), λ r. skeletons_are_not_enough.2 r.well_formed)

-- The case f Y c.y has what `instance_of` needs.
turning_ok : IsSignature Turning
turning_ok = record { types_ok = types; kinds_ok = kinds }
  where
    types : (c : ℕ) (A : LfType) → Turning.types c ≡ Some A → IsType Turning [] A
    types zero A e = subst (IsType Turning []) (some_same e) (star, refl, tt)
    types (suc c) A e = absurd cc

    kinds : (a : ℕ) (K : Kind) → Turning.kinds a ≡ Some K → IsKind Turning [] K
    kinds zero K e = subst (IsKind Turning []) (some_same e) tt
    kinds (suc zero) K e = subst (IsKind Turning []) (some_same e) ((star, refl, tt), tt)
    kinds (suc (suc zero)) K e = subst (IsKind Turning []) (some_same e) ((star, refl, tt), ((kind_pi exp star, refl, ((exp, refl, refl), tt)), tt))
    kinds (suc (suc (suc a))) K e = absurd cc

blocks_typed : AreTypedBlocks Turning (first_block ∷ [])
blocks_typed B (inl e) = subst (λ (D : Block). IsContext Turning (onto D.entries D.some)) (sym e) ((tt, (star, refl, tt)), (kind_pi exp star, refl, ((exp, refl, refl), tt)))
blocks_typed B (inr i) = absurd i

two_typed : IsTypedNumberedCase Turning 3 (first_block ∷ []) two_on
two_typed = record {
  variables = record { variables = ((tt, (star, refl, tt)), (star, refl, tt)); on_own_terms = own; blocks = (inl refl, (in_front (keep 1) keep, terms 1 (exp, refl, refl), refl), (tt, tt), (inl refl, (in_front (keep 0) keep, terms 0 refl, refl), (tt, tt), tt)) };
  local = ((tt, (star, refl, tt)), (star, refl, tt));
  local_on_own = tt;
  given = tt;
  given_on_own = tt;
  arguments = ((base 0, (base 0, refl, refl)), ((base 1, (arrow (base 0) (base 1), refl, ((base 0, refl, refl), refl))), tt));
  arguments_on_own = (tt, (((nil, refl), (tt, tt)), tt));
}
  where
    own : (i : ℕ) (A : LfType) → TypeAt (exp ∷ exp ∷ []) i A → TypeOnOwnTerms (own_terms 3 two_on.blocks) A
    own zero A g = subst (TypeOnOwnTerms (own_terms 3 two_on.blocks)) (sym g) tt
    own (suc zero) A (D, d, g) = subst (TypeOnOwnTerms (own_terms 3 two_on.blocks)) (sym (g ∙ ap weaken d)) tt
    own (suc (suc i)) A (D, (E, e, d), g) = absurd e

    terms : (v : ℕ) → TypeAt (exp ∷ exp ∷ []) v exp → IsTypedSubstitution (with_entries Turning 3 (blocks_of two_on.blocks)) (exp ∷ []) (exp ∷ exp ∷ []) (in_front (keep v) keep)
    terms v t zero A g = subst (λ Z. TypeAt (exp ∷ exp ∷ []) v (substitute_type reduce (in_front (keep v) keep) Z)) (sym g) t
    terms v t (suc i) A (D, d, g) = absurd d

two_needs : NumberedMatchedNeeds Turning 3 (first_block ∷ []) two_on loose_head
two_needs = record {
  setting = record { signature = turning_ok; blocks = blocks_typed; free = free_from Turning 3 (λ c. refl) (λ a. refl) };
  case = two_typed;
  pattern = head_is_for Turning 3 (first_block ∷ []) two_on loose_head skeletons_are_not_enough.1 tt refl (record { is_head = refl; none_given = refl; no_local = refl; kind = loose_kind; of_family = refl; covered_only = (tt, (((refl, tt), tt), tt)); tuple = app (var 0) (app (root (constant 4) (app (var 0) nil)) nil); at_places = (refl, (refl, tt)); typed_places = ((exp, refl, refl), ((pi exp (on_one 1 (var 0)), refl, ((exp, refl, refl), refl)), tt)) });
}

pub one_place_has_its_terms : OnePlaceHasItsTerms
one_place_has_its_terms = (needed_places_are_ready_to_solve Turning 3 (first_block ∷ []) two_on loose_head two_needs loose_kind refl, refl)
