-- Worked cases of types of constants over families with indices.
use Rattle.std.proofs.Common.{◌≡◌, ℕ, zero, suc, ◌⊎◌, [], inl, inr, refl, sym, ap, ◌∙◌, subst}
use Rattle.std.specs.Prelude.{List, ◌∷◌, Bool, true, false, not, cond, Option, Some, None}
use Rattle.lf.specs.Syntax.{metavariable, constant, variable, Term, Spine, lambda, root, nil, app, LfType, pi, Kind, kind_pi, star, Skeleton, base, arrow, skeleton}
use Rattle.lf.specs.Variables.{everything, KindFamiliesIn, same_number, target}
use Rattle.lf_checks.proofs.Reach.{number_equal}
use Rattle.lf_unification.specs.Reach.{in_term, in_type}
use Rattle.lf_unification.specs.Patterns.{pattern}
use Rattle.lf_coverage.specs.ExamplesIndices.{Indexed, NestedHasNone, NestedIsNoPattern, Taking, TypeHoldsEquation, UsualFamiliesHavePatterns, VectorsAreLayers, exp, indexed_below, indexed_types, next_number, number, number_types, taking_type, tp, without_indices}
use Rattle.lf_coverage.specs.Indices.{ConstantsHavePatterns, head_has_patterns}
use Rattle.lf_coverage.specs.IndicesLeft.{circular_by_type}
use Rattle.lf_coverage.specs.PatternRuns.{HaveNoIndices}
use Rattle.lf_coverage.specs.PatternStores.{AreDistinct, ArePatternArguments, IsPatternTerm}
use Rattle.lf_coverage.specs.SplitStore.{context_metavariables}
use Rattle.lf_coverage.proofs.IndicesNever.{TypesPlain}
use Rattle.lf_coverage.proofs.IndicesPlain.{never_held}
use Rattle.lf_coverage.proofs.IndicesPruned.{PlainType}

one : {A B : LfType} → Some A ≡ Some B → A ≡ B
one e = cc

none : {A : LfType} → None ≡ Some A → ⊥
none e = cc

is_declared : (A U : LfType) → head_has_patterns everything A ≡ true → Some A ≡ Some U → head_has_patterns everything U ≡ true
is_declared A U h e = ap (head_has_patterns everything) (sym (one e)) ∙ h

constants : ConstantsHavePatterns Indexed everything
constants zero U e t = is_declared _ U refl e
constants (suc zero) U e t = is_declared _ U refl e
constants (suc (suc zero)) U e t = is_declared _ U refl e
constants (suc (suc (suc zero))) U e t = is_declared _ U refl e
constants (suc (suc (suc (suc zero)))) U e t = is_declared _ U refl e
constants (suc (suc (suc (suc (suc zero))))) U e t = is_declared _ U refl e
constants (suc (suc (suc (suc (suc (suc zero)))))) U e t = is_declared _ U refl e
constants (suc (suc (suc (suc (suc (suc (suc zero))))))) U e t = is_declared _ U refl e
constants (suc (suc (suc (suc (suc (suc (suc (suc zero)))))))) U e t = is_declared _ U refl e
constants (suc (suc (suc (suc (suc (suc (suc (suc (suc zero))))))))) U e t = is_declared _ U refl e
constants (suc (suc (suc (suc (suc (suc (suc (suc (suc (suc n)))))))))) U e t = absurd (none e)

pub usual_families_have_patterns : UsualFamiliesHavePatterns
usual_families_have_patterns = (constants, refl, refl)

pub nested_has_none : NestedHasNone
nested_has_none = (refl, refl, refl)

numbers_plain : TypesPlain number_types
numbers_plain zero A e = subst PlainType (one e) refl
numbers_plain (suc zero) A e = subst PlainType (one e) refl
numbers_plain (suc (suc m)) A e = absurd (none e)

pub type_holds_equation : TypeHoldsEquation
type_holds_equation = (
  circular_by_type (record { inversion = root (constant 9) (app (root (metavariable 1) nil) nil); is = refl }) (in_type (in_term {m = 1} (inl (inl refl))) refl (inl (inl refl))) no,
  never_held number_types [] (next_number (root (metavariable 1) nil)) (λ k z. numbers_plain k) ((tt, tt), tt) [] 0 (numbers_plain 0) [] (record { places = λ Γ. tt; distinct = λ i j e. e }),
)
  where
    no : ((zero ≡ suc zero) ⊎ ⊥) ⊎ ⊥ → ⊥
    no (inl (inl e)) = cc
    no (inl (inr e)) = e
    no (inr e) = e

-- layers
kind_one : {J K : Kind} → Some J ≡ Some K → J ≡ K
kind_one e = cc

no_kind : {K : Kind} → None ≡ Some K → ⊥
no_kind e = cc

none_indexed : HaveNoIndices Indexed without_indices
none_indexed zero e = refl
none_indexed (suc zero) e = refl
none_indexed (suc (suc zero)) e = absurd cc
none_indexed (suc (suc (suc zero))) e = refl
none_indexed (suc (suc (suc (suc zero)))) e = absurd cc
none_indexed (suc (suc (suc (suc (suc zero))))) e = refl
none_indexed (suc (suc (suc (suc (suc (suc n)))))) e = absurd cc

its_own : (f b : ℕ) → without_indices f ≡ true → same_number f b ≡ true → without_indices b ≡ true
its_own f b e s = subst (λ n. without_indices n ≡ true) (number_equal f b s) e

stays_below : (f b : ℕ) → without_indices f ≡ true → indexed_below f b ≡ true → without_indices b ≡ true
stays_below zero b e s = its_own 0 b refl s
stays_below (suc zero) b e s = its_own 1 b refl s
stays_below (suc (suc zero)) b e s = absurd cc
stays_below (suc (suc (suc zero))) b e s = its_own 3 b refl s
stays_below (suc (suc (suc (suc zero)))) b e s = absurd cc
stays_below (suc (suc (suc (suc (suc zero))))) b e s = its_own 5 b refl s
stays_below (suc (suc (suc (suc (suc (suc n)))))) b e s = absurd cc

indexed_so : (a : ℕ) (K : Kind) → everything a ≡ true → Indexed.kinds a ≡ Some K → KindFamiliesIn without_indices K
indexed_so zero K t e = subst (KindFamiliesIn without_indices) (kind_one e) tt
indexed_so (suc zero) K t e = subst (KindFamiliesIn without_indices) (kind_one e) tt
indexed_so (suc (suc zero)) K t e = subst (KindFamiliesIn without_indices) (kind_one e) (refl, tt)
indexed_so (suc (suc (suc zero))) K t e = subst (KindFamiliesIn without_indices) (kind_one e) tt
indexed_so (suc (suc (suc (suc zero)))) K t e = subst (KindFamiliesIn without_indices) (kind_one e) (refl, tt)
indexed_so (suc (suc (suc (suc (suc zero))))) K t e = subst (KindFamiliesIn without_indices) (kind_one e) tt
indexed_so (suc (suc (suc (suc (suc (suc zero)))))) K t e = subst (KindFamiliesIn without_indices) (kind_one e) (refl, (refl, tt))
indexed_so (suc (suc (suc (suc (suc (suc (suc n))))))) K t e = absurd (no_kind e)

pub vectors_are_layers : VectorsAreLayers
vectors_are_layers = (record { no_indices = none_indexed; downward = stays_below; indices = indexed_so }, λ l. no ((l.indices 6 (kind_pi exp (kind_pi tp star)) refl refl).1.0))
  where
    no : false ≡ true → ⊥
    no e = cc

-- what is nested
first : {M N : Term} {S T : Spine} → app M S ≡ app N T → M ≡ N
first e = cc

on_item_fails : AreDistinct [] (arrow (base 1) (base 1)) (app (root (metavariable 0) nil) nil) → ⊥
on_item_fails d = by d.variables d.same
  where
    no_variable : {x : ℕ} → root (metavariable zero) nil ≡ root (variable x) nil → ⊥
    no_variable e = cc

    by : (xs : List ℕ) → app (root (metavariable 0) nil) nil ≡ pattern (arrow (base 1) (base 1)) xs → ⊥
    by [] e = absurd cc
    by (x ∷ xs) e = no_variable (first e)

abbrev nested_items : ℕ → Option LfType
nested_items = context_metavariables (number ∷ pi number number ∷ [])

pub nested_is_no_pattern : NestedIsNoPattern
nested_is_no_pattern = (λ h. no (h 10 taking_type refl refl), λ p. let (t, q) = p.arguments.0 in none t q, others)
  where
    no : false ≡ true → ⊥
    no e = cc

    same : {A : LfType} → nested_items 1 ≡ Some A → pi number number ≡ A
    same e = one e

    others : ConstantsHavePatterns Taking (λ a. not (same_number a 7))
    others c U e t = by (same_number c 10) e
      where
        by : (b : Bool) → cond b (Some taking_type) (indexed_types c) ≡ Some U → head_has_patterns everything U ≡ true
        by true e = absurd (no (subst (λ X. not (same_number (target X) 7) ≡ true) (sym (one e)) t))
        by false e = constants c U e refl

    whole : {t : Skeleton} → Some (skeleton taking_type) ≡ Some t → skeleton taking_type ≡ t
    whole e = cc

    none : (t : Skeleton) → IsPatternTerm Taking nested_items [] (root (constant 10) (app (lambda (root (metavariable 1) (app (root (variable 0) nil) nil))) (app (root (metavariable 1) (app (root (metavariable 0) nil) nil)) (app (lambda (root (variable 0) (app (root (metavariable 0) nil) nil))) nil)))) t → ⊥
    none (arrow a b) p = p
    none (base c) (u, e, s) =
        let r = subst (λ v. ArePatternArguments Taking nested_items [] (app (lambda (root (metavariable 1) (app (root (variable 0) nil) nil))) (app (root (metavariable 1) (app (root (metavariable 0) nil) nil)) (app (lambda (root (variable 0) (app (root (metavariable 0) nil) nil))) nil))) v (base c)) (sym (whole e)) s in
        let (A, g, q, d) = r.1.0 in
        on_item_fails (subst (λ X. AreDistinct [] (skeleton X) (app (root (metavariable 0) nil) nil)) (sym (same g)) d)
