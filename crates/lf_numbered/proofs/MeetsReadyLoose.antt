-- A store of a case that is typed by skeletons alone isn't well formed; and a case with block variables one doesn't stand on own terms.
use Rattle.std.proofs.Common.{◌≡◌, ℕ, zero, suc, List, [], ◌∷◌, Option, Some, None, inl, refl, subst, sym, ap, ◌∙◌}
use Rattle.lf.specs.Syntax.{base, arrow, constant, variable, metavariable, nil, app, root, Spine, Term, LfType, atom, kind_pi, star, skeleton, weaken}
use Rattle.lf.specs.Substitution.{keep, reduce, substitute_type}
use Rattle.lf.specs.AtOnce.{in_front}
use Rattle.lf.specs.Eta.{append}
use Rattle.lf.specs.SkeletonTyping.{HeadSkeletons, TypeBySkeletons}
use Rattle.lf.specs.Skeletons.{context_skeletons, family_skeletons}
use Rattle.lf.specs.Typing.{Signature, TypeAt, IsTypedSubstitution}
use Rattle.lf_unification.specs.Filling.{fill_type}
use Rattle.lf_unification.specs.OpenTyping.{MetavariablesInType, OpenHasType, skeletons_of}
use Rattle.lf_unification.specs.PartialInstance.{IsFilling, ValueBySkeletons, ValueIsPlain}
use Rattle.lf_unification.specs.Skeletons.{as_head_skeletons, total_skeletons}
use Rattle.lf_unification.specs.Solving.{IsWellFormed}
use Rattle.lf_unification.specs.Unifiers.{Store}
use Rattle.lf_totality.specs.Examples.{exp, var}
use Rattle.lf_totality.specs.ExamplesGroups.{on_one}
use Rattle.lf_coverage.specs.Leaf.{IsTypedPattern}
use Rattle.lf_coverage.proofs.Parts.{some_same}
use Rattle.lf_numbered.specs.EntryConstants.{with_entries}
use Rattle.lf_numbered.specs.ExamplesNumbered.{Turning, first_block}
use Rattle.lf_numbered.specs.MeetsReadyExamples.{loose_case, loose_head, loose_kind, SkeletonsAreNotEnough, under_exp, under_other, LengthsAreNotEnough, two_turned, IdentifiedLeavesOwnTerms}
use Rattle.lf_numbered.specs.NumberedCallsStores.{Identifies, identified, meet_store_by_number}
use Rattle.lf_numbered.specs.OwnTerms.{BlockVariable, blocks_of, own_terms, TypeOnOwnTerms}
use Rattle.lf_numbered.specs.TypedNumbered.{IsTypedNumberedCase}

abbrev Σ : Signature
Σ = with_entries Turning 1 []

loose_typed : IsTypedNumberedCase Turning 1 [] loose_case
loose_typed = record {
  variables = record { variables = (tt, (kind_pi exp star, refl, ((exp, refl, refl), tt))); on_own_terms = own; blocks = tt };
  local = (tt, (kind_pi exp star, refl, ((exp, refl, refl), tt)));
  local_on_own = tt;
  given = tt;
  given_on_own = tt;
  arguments = ((base 1, (base 1, refl, refl)), tt);
  arguments_on_own = (tt, tt);
}
  where
    own : (i : ℕ) (A : LfType) → TypeAt (on_one 1 (root (constant 0) nil) ∷ []) i A → TypeOnOwnTerms (own_terms 1 loose_case.blocks) A
    own zero A g = subst (TypeOnOwnTerms (own_terms 1 loose_case.blocks)) (sym g) ((tt, tt), tt)
    own (suc i) A g = absurd g.1

head_typed : IsTypedPattern Turning loose_head
head_typed = record {
  outer_typed = tt;
  clause_typed = ((tt, (star, refl, tt)), (kind_pi exp star, refl, ((exp, refl, refl), tt)));
  type_typed = (loose_kind, refl, ((exp, (exp, refl, refl), refl), ((on_one 1 (var 1), refl, refl), tt)));
}

abbrev store : Store
store = meet_store_by_number (λ k. k) loose_case loose_head keep loose_kind

-- x for N, and y : t x for D and Y
abbrev G : List LfType
G = on_one 1 (var 0) ∷ exp ∷ []

abbrev β : ℕ → Option Term
β zero = Some (var 0)
β (suc zero) = Some (var 1)
β (suc (suc zero)) = Some (var 0)
β (suc (suc (suc m))) = None

abbrev K : HeadSkeletons
K = as_head_skeletons (total_skeletons Σ (skeletons_of store.metavariables))

filling : IsFilling Σ [] store β
filling = (G, record { context = context; outer = λ i A g. absurd g; by_skeletons = values; typed = λ m v. absurd v; plain_context = plain; plain_values = plain_value }, (tt, (refl, tt)))
  where
    context : (i : ℕ) (A : LfType) → TypeAt G i A → TypeBySkeletons (family_skeletons Σ) K (context_skeletons G) A
    context zero A g = subst (TypeBySkeletons (family_skeletons Σ) K (context_skeletons G)) (sym g) (arrow (base 0) (base 1), refl, ((base 0, refl, refl), refl))
    context (suc zero) A (D, d, g) = subst (TypeBySkeletons (family_skeletons Σ) K (context_skeletons G)) (sym (g ∙ ap weaken d)) (base 0, refl, refl)
    context (suc (suc i)) A (D, (E, e, d), g) = absurd e

    values : (m : ℕ) → ValueBySkeletons Σ G (skeletons_of store.metavariables) (store.metavariables m) (β m)
    values zero = (base 1, refl, refl)
    values (suc zero) = (base 0, refl, refl)
    values (suc (suc zero)) = (base 1, refl, refl)
    values (suc (suc (suc m))) = tt

    plain : (i : ℕ) (A : LfType) → TypeAt G i A → MetavariablesInType (λ m. ⊥) A
    plain zero A g = subst (MetavariablesInType (λ m. ⊥)) (sym g) (tt, tt)
    plain (suc zero) A (D, d, g) = subst (MetavariablesInType (λ m. ⊥)) (sym (g ∙ ap weaken d)) tt
    plain (suc (suc i)) A (D, (E, e, d), g) = absurd e

    plain_value : (m : ℕ) → ValueIsPlain (β m)
    plain_value zero = tt
    plain_value (suc zero) = tt
    plain_value (suc (suc zero)) = tt
    plain_value (suc (suc (suc m))) = tt

-- the type of D, filled, isn't that of its place
not_ready : IsWellFormed Σ store → ⊥
not_ready w = by w.typed.equations_typed.0.left_typed
  where
    differ : atom 1 (app (root (constant 0) nil) nil) ≡ atom 1 (app (root (variable 1) nil) nil) → ⊥
    differ e = cc

    by : OpenHasType Σ [] store.metavariables (IsFilling Σ [] store) [] (root (metavariable 2) nil) (atom 1 (app (root (metavariable 1) nil) nil)) → ⊥
    by (A, (B, q, e), (s, h)) = differ (ap (fill_type (skeletons_of store.metavariables) β) (some_same q ∙ sym e) ∙ h β filling)

pub skeletons_are_not_enough : SkeletonsAreNotEnough
skeletons_are_not_enough = (loose_typed, head_typed, not_ready)

-- Two block variables
two_typed : IsTypedNumberedCase Turning 1 (first_block ∷ []) two_turned
two_typed = record {
  variables = record { variables = ((tt, (star, refl, tt)), (star, refl, tt)); on_own_terms = own; blocks = (inl refl, (in_front (keep 1) keep, terms 1 (exp, refl, refl), refl), (tt, tt), (inl refl, (in_front (keep 0) keep, terms 0 refl, refl), (tt, tt), tt)) };
  local = ((tt, (star, refl, tt)), (star, refl, tt));
  local_on_own = tt;
  given = tt;
  given_on_own = tt;
  arguments = ((base 0, (base 0, refl, refl)), ((base 1, (arrow (base 0) (base 1), refl, ((base 0, refl, refl), refl))), tt));
  arguments_on_own = (tt, (((nil, refl), (tt, tt)), tt));
}
  where
    own : (i : ℕ) (A : LfType) → TypeAt (exp ∷ exp ∷ []) i A → TypeOnOwnTerms (own_terms 1 two_turned.blocks) A
    own zero A g = subst (TypeOnOwnTerms (own_terms 1 two_turned.blocks)) (sym g) tt
    own (suc zero) A (D, d, g) = subst (TypeOnOwnTerms (own_terms 1 two_turned.blocks)) (sym (g ∙ ap weaken d)) tt
    own (suc (suc i)) A (D, (E, e, d), g) = absurd e

    terms : (v : ℕ) → TypeAt (exp ∷ exp ∷ []) v exp → IsTypedSubstitution (with_entries Turning 1 (blocks_of two_turned.blocks)) (exp ∷ []) (exp ∷ exp ∷ []) (in_front (keep v) keep)
    terms v t zero A g = subst (λ Z. TypeAt (exp ∷ exp ∷ []) v (substitute_type reduce (in_front (keep v) keep) Z)) (sym g) t
    terms v t (suc i) A (D, d, g) = absurd d

first_is_one : Identifies two_turned (λ k. 0)
first_is_one zero b e = (_, refl, ap (λ (c : BlockVariable). c.block) (some_same e), refl)
first_is_one (suc zero) b e = (_, refl, ap (λ (c : BlockVariable). c.block) (some_same e), refl)
first_is_one (suc (suc k)) b e = absurd cc

left : IsTypedNumberedCase Turning 1 (first_block ∷ []) (identified 1 (λ k. 0) two_turned) → ⊥
left t = by t.arguments_on_own.1.0.0
  where
    by : (T : Spine) × (app (var 0) nil ≡ append (app (var 1) nil) T) → ⊥
    by (T, e) = cc

pub identified_leaves_own_terms : IdentifiedLeavesOwnTerms
identified_leaves_own_terms = (two_typed, first_is_one, left)

-- Two local contexts
under_typed : IsTypedNumberedCase Turning 1 [] under_exp
under_typed = record {
  variables = record { variables = tt; on_own_terms = λ i A g. absurd g; blocks = tt };
  local = (tt, (star, refl, tt));
  local_on_own = (tt, tt);
  given = tt;
  given_on_own = tt;
  arguments = ((base 0, (base 0, refl, refl)), tt);
  arguments_on_own = (tt, tt);
}

other_typed : IsTypedPattern Turning under_other
other_typed = record { outer_typed = tt; clause_typed = tt; type_typed = ((kind_pi exp star, refl, ((exp, refl, refl), tt)), (kind_pi exp star, refl, ((exp, refl, refl), tt))) }

abbrev under_store : Store
under_store = meet_store_by_number (λ k. k) under_exp under_other keep (kind_pi exp star)

not_under : IsWellFormed Σ under_store → ⊥
not_under w = by w.typed.equations_typed.0.left_typed
  where
    differ : base 1 ≡ base 0 → ⊥
    differ e = cc

    by : OpenHasType Σ [] under_store.metavariables (IsFilling Σ [] under_store) (on_one 1 (root (constant 0) nil) ∷ []) (root (variable 0) nil) exp → ⊥
    by (A, q, (s, h)) = differ (sym (ap skeleton q) ∙ s)

pub lengths_are_not_enough : LengthsAreNotEnough
lengths_are_not_enough = (under_typed, other_typed, refl, not_under)
