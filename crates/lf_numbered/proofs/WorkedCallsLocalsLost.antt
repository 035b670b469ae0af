-- A tuple of the worked goal with a local context is lost: no term at all makes the pattern one that the goal's tuples
-- have.
use Rattle.std.proofs.Common.{◌≡◌, ℕ, zero, suc, [], ◌∷◌, inl, inr, refl, sym, ap, subst, arith}
use Rattle.std.specs.Prelude.{true, Some, None}
use Rattle.lf.specs.Syntax.{constant, lambda, metavariable, variable, Term, root, Spine, nil, app, Kind, LfType, skeleton}
use Rattle.lf.specs.AtOnce.{in_front}
use Rattle.lf.specs.Substitution.{Image, keep, put}
use Rattle.lf.specs.Typing.{HasType, ImageHasType, SpineType}
use Rattle.lf.specs.Variables.{FamiliesIn, KindFamiliesIn, target}
use Rattle.lf.specs.Subordination.{IsDeclared, SelfContained}
use Rattle.lf.specs.Worlds.{World, no_variables}
use Rattle.lf.proofs.Conservativity.{spine_target}
use Rattle.lf_cases.specs.Pattern.{CoversTuple, OneCovers}
use Rattle.lf_totality.specs.Examples.{var}
use Rattle.lf_totality.proofs.After.{Extends-self}
use Rattle.lf_coverage.specs.ExamplesTwins.{up_to}
use Rattle.lf_coverage.proofs.Parts.{none_some, some_same}
use Rattle.lf_numbered.specs.EntryPatternsRuns.{HoldsByNumber}
use Rattle.lf_numbered.specs.NumberedCalls.{NumberedCoverIs, all_covered}
use Rattle.lf_numbered.specs.WorkedCallsLocals.{Locals, fam_a, fam_d, k_type, local_below, local_goal, local_kinds, local_pattern, local_patterns, local_types, q_kind, w_type, y_type}
use Rattle.lf_numbered.proofs.WorkedCallsLocalsBelow.{ok}
use Rattle.lf_numbered.proofs.WorkedCallsLocalsSplit.{of_y}

-- q (k (y v)) is a tuple of the goal beside all families.
abbrev the_value : Term
the_value = lambda (lambda (root (constant 0) (app (root (variable 0) (app (var 1) nil)) nil)))

contained : SelfContained Locals [] (up_to 4)
contained = record { declared = declared; kinds_in = kinds_in; types_in = types_in; entries_in = λ B E m. absurd m }
  where
    declared : (a : ℕ) → up_to 4 a ≡ true → IsDeclared Locals a
    declared zero e = (_, refl)
    declared (suc zero) e = (_, refl)
    declared (suc (suc zero)) e = (_, refl)
    declared (suc (suc (suc zero))) e = (_, refl)
    declared (suc (suc (suc (suc zero)))) e = (_, refl)
    declared (suc (suc (suc (suc (suc a))))) e = absurd cc

    kinds_in : (a : ℕ) (K : Kind) → local_kinds a ≡ Some K → up_to 4 a ≡ true → KindFamiliesIn (up_to 4) K
    kinds_in zero K e h = subst (KindFamiliesIn (up_to 4)) (some_same e) tt
    kinds_in (suc zero) K e h = subst (KindFamiliesIn (up_to 4)) (some_same e) tt
    kinds_in (suc (suc zero)) K e h = subst (KindFamiliesIn (up_to 4)) (some_same e) (refl, tt)
    kinds_in (suc (suc (suc zero))) K e h = subst (KindFamiliesIn (up_to 4)) (some_same e) tt
    kinds_in (suc (suc (suc (suc zero)))) K e h = subst (KindFamiliesIn (up_to 4)) (some_same e) tt
    kinds_in (suc (suc (suc (suc (suc a))))) K e h = absurd (none_some e)

    types_in : (c : ℕ) (A : LfType) → local_types c ≡ Some A → up_to 4 (target A) ≡ true → FamiliesIn (up_to 4) A
    types_in zero A e h = subst (FamiliesIn (up_to 4)) (some_same e) (refl, refl)
    types_in (suc c) A e h = absurd (none_some e)

abbrev world : World Locals [] (up_to 4) []
world = no_variables

abbrev tuple : Spine
tuple = app (root (constant 0) (app (root (variable 0) (app (var 1) nil)) nil)) nil

holds : HoldsByNumber world 5 local_goal None keep tuple
holds = record {
  instances = λ k. keep;
  values = in_front (put (skeleton of_y) the_value) keep;
  is_ground = record { values = (the_value, keep, refl, (k_type, refl, ((y_type, refl, ((fam_d, (fam_d, refl, refl), refl), refl)), refl)), refl); instances = tt };
  zeroth = tt;
  given = λ i M e. absurd (none_some e);
  has_arguments = (refl, tt);
}

-- Under y no term has the type a, since none has the type d.
none_of_d : (P : Term) → HasType Locals (y_type ∷ []) P fam_d → ⊥
none_of_d (lambda M) h = h
none_of_d (root (constant zero) T) (A, e, s) = c_is_no_d (sym (ap target (some_same e))) (spine_target Locals (y_type ∷ []) T A fam_d s)
  where
    c_is_no_d : {n : ℕ} → n ≡ 1 → n ≡ 3 → ⊥
    c_is_no_d e f = omega (arith, e, f)
none_of_d (root (constant (suc i)) T) (A, e, s) = none_some e
none_of_d (root (variable zero) T) (A, e, s) = a_is_no_d (ap target e) (spine_target Locals (y_type ∷ []) T A fam_d s)
  where
    a_is_no_d : {n : ℕ} → n ≡ 0 → n ≡ 3 → ⊥
    a_is_no_d e f = omega (arith, e, f)
none_of_d (root (variable (suc i)) T) (A, (B, g, e), s) = g
none_of_d (root (metavariable n) T) (A, e, s) = e

none_of_a : (M : Term) → HasType Locals (y_type ∷ []) M fam_a → ⊥
none_of_a (lambda M) h = h
none_of_a (root (constant zero) T) (A, e, s) = c_is_no_a (sym (ap target (some_same e))) (spine_target Locals (y_type ∷ []) T A fam_a s)
  where
    c_is_no_a : {n : ℕ} → n ≡ 1 → n ≡ 0 → ⊥
    c_is_no_a e f = omega (arith, e, f)
none_of_a (root (constant (suc i)) T) (A, e, s) = none_some e
none_of_a (root (variable zero) T) (A, e, s) = applied T (subst (λ B. SpineType Locals (y_type ∷ []) T B fam_a) e s)
  where
    applied : (T : Spine) → SpineType Locals (y_type ∷ []) T y_type fam_a → ⊥
    applied nil q = cc
    applied (app P T) (m, s) = none_of_d P m
none_of_a (root (variable (suc i)) T) (A, (B, g, e), s) = g
none_of_a (root (metavariable n) T) (A, e, s) = e

no_w : (x : Image) → ImageHasType Locals [] x w_type → ⊥
no_w (keep j) h = h
no_w (put a (lambda M)) (e, h) = none_of_a M h
no_w (put a (root g T)) (e, h) = h

pub uncovered : NumberedCoverIs Locals 5 [] local_below local_patterns local_goal all_covered → ⊥
uncovered c = by (c (up_to 4) (record { self_contained = contained; kind = q_kind; of_family = refl; places = (refl, tt); locals = ((λ h. (refl, refl)), ((λ h. refl), tt)) }) Locals (Extends-self (up_to 4) Locals ok) [] world None keep tuple holds)
  where
    by : OneCovers world local_patterns (true ∷ []) None [] keep tuple → ⊥
    by (p, inr m, c) = m
    by (p, inl e, c) = covers (subst (λ q. CoversTuple world q (true ∷ []) None [] keep tuple) e c)
      where
        covers : CoversTuple world local_pattern (true ∷ []) None [] keep tuple → ⊥
        covers c = no_w (c.values 1) (c.typed.typed 1 w_type (w_type, refl, refl) c.uses.1.1.0.0.0)
