-- A worked case of matching: l ([x] k Z), where Z stands under x, and a lower family.
use Rattle.std.proofs.Common.{◌≡◌, ℕ, zero, suc, List, [], ◌∷◌, refl, sym, ap, ◌∙◌, subst, inl, inr, arith, true≢false}
use Rattle.std.specs.Prelude.{true, false, ◌⊎◌, ◌≤◌}
use Rattle.lf.specs.Syntax.{Spine, Term, constant, variable, metavariable, lambda, root, nil, app, LfType, pi, atom, base, arrow, rename}
use Rattle.lf.specs.Substitution.{Image, keep, put, rename_image, substitute_type, apply_image, substitute, substitute_spine, reduce}
use Rattle.lf.specs.AtOnce.{in_front}
use Rattle.lf.specs.Eta.{eta_long}
use Rattle.lf.specs.Typing.{Signature, TypeAt, ImageHasType}
use Rattle.lf.specs.Variables.{everything, target, target_arguments, Values}
use Rattle.lf.specs.Subordination.{Member}
use Rattle.lf.proofs.Eta.{reduce_nil}
use Rattle.lf.proofs.Partial.{uses_type_all}
use Rattle.lf_checks.specs.Marks.{SamePlaces}
use Rattle.lf_cases.specs.Candidates.{case_candidates}
use Rattle.lf_cases.specs.Case.{Item, free_variable, HasArguments, covered_places, as_term}
use Rattle.lf_cases.specs.Cover.{AreTerms}
use Rattle.lf_cases.specs.Missing.{CommonInstance, IsTypedInstance}
use Rattle.lf_cases.specs.Pattern.{Pattern}
use Rattle.lf_cases.specs.Reached.{IsInstanceOf, IsUnsplit, LeavesAll}
use Rattle.lf_totality.specs.Examples.{var}
use Rattle.lf_totality.specs.ExamplesReached.{head_of}
use Rattle.lf_checks.specs.Clause.{variables, outside}
use Rattle.lf_cases.specs.Full.{occurrences_at, AppliesToAll}
use Rattle.lf_coverage.specs.ExamplesStuck.{Lower, lower_below, lower_clause, lower_case, LowerIsUnsplit}

-- l ([x] k Z), where Z stands under x
abbrev under_l : Term → Term
under_l Z = root (constant 1) (app (lambda (root (constant 0) (app Z nil))) nil)

abbrev f_of_x : Term
f_of_x = root (variable 1) (app (var 0) nil)

lower_values : Values Lower everything (atom 1 nil ∷ []) (atom 1 nil ∷ []) (in_front (put (base 1) (var 0)) keep)
lower_values = record { typed = typed; closed = λ i A g u. uses_type_all everything A (λ j. refl) }
  where
    typed : (i : ℕ) (A : LfType) → TypeAt (atom 1 nil ∷ []) i A → everything i ≡ true → ImageHasType Lower (atom 1 nil ∷ []) (in_front (put (base 1) (var 0)) keep i) (substitute_type reduce (in_front (put (base 1) (var 0)) keep) A)
    typed zero A q u = subst (λ X. ImageHasType Lower (atom 1 nil ∷ []) (put (base 1) (var 0)) (substitute_type reduce (in_front (put (base 1) (var 0)) keep) X)) (sym q) (refl, (atom 1 nil, refl, refl))
    typed (suc i) A (B, g, r) u = absurd g

lower_terms : AreTerms lower_clause everything (in_front (put (base 1) (var 0)) keep)
lower_terms zero o u = tt
lower_terms (suc i) o u = absurd cc

-- with F as [x] Y
lower_meets : CommonInstance Lower [] lower_case (head_of lower_clause.type)
lower_meets = record {
  items = free_variable (atom 1 nil) ∷ [];
  typed_items = (tt, (_, refl, tt));
  case_values = in_front (put (arrow (base 0) (base 1)) (lambda (var 1))) keep;
  is_instance = (lambda (var 1), keep, tt, (atom 1 nil, (atom 1 nil, refl, refl), refl), refl);
  used = everything;
  clause_values = in_front (put (base 1) (var 0)) keep;
  typed_values = lower_values;
  uses = ((((refl, tt), tt), tt), tt);
  terms = lower_terms;
  given = λ i M e. absurd cc;
  stands = tt;
  tuple = app (under_l (var 1)) nil;
  of_case = (refl, tt);
  of_clause = (refl, tt);
}

-- what doesn't mention x isn't F x
moved_is_other : (V : Term) → f_of_x ≡ rename suc V → ⊥
moved_is_other (lambda V) e = cc
moved_is_other (root h nil) e = cc
moved_is_other (root h (app (lambda V) S)) e = cc
moved_is_other (root h (app (root (variable j) T) S)) e = cc
moved_is_other (root h (app (root (constant c) T) S)) e = cc
moved_is_other (root h (app (root (metavariable m) T) S)) e = cc

not_moved : (y : Image) → f_of_x ≡ apply_image reduce (rename_image suc y) nil → ⊥
not_moved (keep j) e = cc
not_moved (put a V) e = moved_is_other V (e ∙ reduce_nil a (rename suc V))

lower_differs : (T : Spine) (σ τ : ℕ → Image) → substitute reduce σ (under_l f_of_x) ≡ under_l f_of_x → HasArguments σ lower_case.arguments T → SamePlaces (covered_places lower_case.arguments) T (substitute_spine reduce τ (target_arguments lower_clause.type)) → ⊥
lower_differs nil σ τ k a b = a
lower_differs (app M T) σ τ k (e, a) (f, b) = not_moved (τ 0) (inner (sym (e ∙ k) ∙ f))
  where
    inner : {X Y : Term} → under_l X ≡ under_l Y → X ≡ Y
    inner e = cc

lower_still : {Σ : Signature} (J : List Item) (σ : ℕ → Image) → IsTypedInstance Σ J (free_variable (pi (atom 0 nil) (atom 1 nil)) ∷ []) σ → LeavesAll (free_variable (pi (atom 0 nil) (atom 1 nil)) ∷ []) σ → substitute reduce σ (under_l f_of_x) ≡ under_l f_of_x
lower_still J σ (N, τ, t, n, e) v =
    let q : N ≡ eta_long (arrow (base 0) (base 1)) (variable 0) = sym (ap (λ f. as_term (arrow (base 0) (base 1)) (f 0)) e) ∙ v 0 (pi (atom 0 nil) (atom 1 nil)) refl in
    ap (λ f. substitute reduce f (under_l f_of_x)) e ∙ ap (λ X. under_l (reduce (arrow (base 0) (base 1)) (rename suc X) (app (var 0) nil))) q

lower_stuck : IsUnsplit Lower [] (λ C p. ⊥) (head_of lower_clause.type ∷ []) lower_case
lower_stuck = record {
  no_instance = none_of;
  meeting = head_of lower_clause.type;
  listed = inl refl;
  meets = inl lower_meets;
  no_candidate = nowhere;
}
  where
    none_of : (p : Pattern) → Member p (head_of lower_clause.type ∷ []) → IsInstanceOf Lower [] lower_case p → ⊥
    none_of p (inl e) (s, i, v, st) = lower_differs s.tuple s.case_values s.clause_values (lower_still s.items s.case_values s.is_instance v) s.of_case (subst (λ q. SamePlaces (covered_places lower_case.arguments) s.tuple (target_arguments (substitute_type reduce s.clause_values q.type))) e s.of_clause)
    none_of p (inr e) h = absurd e

    nowhere : (p : Pattern) → Member p (head_of lower_clause.type ∷ []) → (case_candidates lower_case p ≡ []) ⊎ (CommonInstance Lower [] lower_case p → ⊥)
    nowhere p (inl e) = inl (ap (case_candidates lower_case) e)
    nowhere p (inr e) = absurd e

pub lower_is_unsplit : LowerIsUnsplit
lower_is_unsplit = (lower_stuck, (once, tt), ((_, refl, ((_, refl, ((_, refl, ((atom 1 nil, (atom 1 nil, refl, refl), none), tt)), tt)), tt)), tt))
  where
    once : (x : ℕ) → variables lower_clause x ≡ true → outside lower_clause.type everything x ≡ false → occurrences_at (true ∷ []) x (target_arguments lower_clause.type) ≤ 1
    once zero v o = omega arith
    once (suc x) v o = absurd (true≢false o)

    none : AppliesToAll (lower_below 1) (atom 1 nil ∷ []) (atom 0 nil ∷ []) nil
    none zero X l g b = absurd (true≢false (sym b ∙ ap (λ Z. lower_below 1 (target Z)) g))
    none (suc j) X l g b = absurd (omega arith)
