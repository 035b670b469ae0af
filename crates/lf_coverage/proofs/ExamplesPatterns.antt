-- Worked cases of stores and cases of patterns.
use Rattle.std.proofs.Common.{◌≡◌, ℕ, zero, suc, List, [], ◌∷◌, refl, sym, ◌∙◌, subst}
use Rattle.std.specs.Prelude.{Some, None}
use Rattle.lf.specs.Syntax.{metavariable, Term, Spine, root, nil, app, LfType, pi, Skeleton, base, arrow, skeleton, Kind, kind_pi, star}
use Rattle.lf_unification.specs.Patterns.{Injective, extend_renaming, pattern, pattern_renaming}
use Rattle.lf.specs.Variables.{same_number}
use Rattle.lf_totality.specs.Examples.{nat, z, var}
use Rattle.lf_coverage.specs.ExamplesPatterns.{BoundAreDistinct, EquationsOfPatterns, NatHasNoIndices, StuckIsNoPattern, some_metavariables}
use Rattle.lf_coverage.specs.ExamplesStuck.{Zeros}
use Rattle.lf_coverage.specs.PatternRuns.{HaveNoIndices}
use Rattle.lf_coverage.specs.PatternStores.{AreDistinct, IsPatternTerm, IsPatternType, TypesArePatterns}
use Rattle.lf_coverage.specs.SplitStore.{context_metavariables}
use Rattle.lf_coverage.specs.TermMatching.{over}

some_same : {X Y : LfType} → Some X ≡ Some Y → X ≡ Y
some_same e = cc

none_is : {Y : LfType} → None ≡ Some Y → ⊥
none_is e = cc

-- no variable
none_distinct : AreDistinct [] (base 0) nil
none_distinct = record { variables = []; same = refl; places = tt; distinct = λ i j e. e }

-- one
one_distinct : AreDistinct (base 0 ∷ []) (arrow (base 0) (base 0)) (app (var 0) nil)
one_distinct = record { variables = 0 ∷ []; same = refl; places = (refl, tt); distinct = apart }
  where
    apart : (i j : ℕ) → extend_renaming 0 (over 1) i ≡ extend_renaming 0 (over 1) j → i ≡ j
    apart zero zero e = refl
    apart zero (suc j) e = absurd cc
    apart (suc i) zero e = absurd cc
    apart (suc i) (suc j) e = e

first : {X Y : Term} {A B : Spine} → app X A ≡ app Y B → X ≡ Y
first e = cc

rest : {X Y : Term} {A B : Spine} → app X A ≡ app Y B → A ≡ B
rest e = cc

-- z is no variable
constant_fails : AreDistinct [] (arrow (base 0) (base 0)) (app z nil) → ⊥
constant_fails d = by d.variables d.same
  where
    no_variable : {x : ℕ} → z ≡ var x → ⊥
    no_variable e = cc

    by : (xs : List ℕ) → app z nil ≡ pattern (arrow (base 0) (base 0)) xs → ⊥
    by [] e = cc
    by (x ∷ xs) e = no_variable (first e)

-- a variable twice
twice_fails : AreDistinct (base 0 ∷ []) (arrow (base 0) (arrow (base 0) (base 0))) (app (var 0) (app (var 0) nil)) → ⊥
twice_fails d = by d.variables d.same d.distinct
  where
    variable_same : {x y : ℕ} → var x ≡ var y → x ≡ y
    variable_same e = cc

    apart : (zero ≡ suc zero) → ⊥
    apart e = cc

    by : (xs : List ℕ) → app (var 0) (app (var 0) nil) ≡ pattern (arrow (base 0) (arrow (base 0) (base 0))) xs → Injective (pattern_renaming (arrow (base 0) (arrow (base 0) (base 0))) xs (over 1)) → ⊥
    by [] e d = absurd cc
    by (x ∷ []) e d = absurd cc
    by (x ∷ y ∷ xs) e d = apart (d 0 1 (sym (variable_same (first (rest e))) ∙ variable_same (first e)))

of_function : (A : LfType) (S : Spine) (Γ : List Skeleton) → pi nat nat ≡ A → AreDistinct Γ (skeleton A) S → AreDistinct Γ (arrow (base 0) (base 0)) S
of_function A S Γ e d = subst (λ X. AreDistinct Γ (skeleton X) S) (sym e) d

applied_fails : IsPatternTerm Zeros some_metavariables [] (root (metavariable 1) (app z nil)) (base 0) → ⊥
applied_fails (A, e, q, d) = constant_fails (of_function A (app z nil) [] (some_same e) d)

pub bound_are_distinct : BoundAreDistinct
bound_are_distinct = ((pi nat nat, refl, refl, one_distinct), applied_fails, λ p. let (A, e, q, d) = p in twice_fails (subst (λ X. AreDistinct (base 0 ∷ []) (skeleton X) (app (var 0) (app (var 0) nil))) (sym (some_same e)) d))

pub equations_of_patterns : EquationsOfPatterns
equations_of_patterns = (record { bindings = tt; sides = (((nat, refl, refl, none_distinct), (base 0, refl, refl)), tt) }, λ s. applied_fails s.sides.0.0)

pub stuck_is_no_pattern : StuckIsNoPattern
stuck_is_no_pattern = (record { no_local = refl; types = types; arguments = ((base 0, (base 0, refl, refl)), ((base 0, (nat, refl, refl, none_distinct)), tt)) }, λ p. let ((t, q), r) = p.arguments.1 in none t q)
  where
    types : TypesArePatterns Zeros (context_metavariables (nat ∷ []))
    types zero A e = subst (IsPatternType Zeros (context_metavariables (nat ∷ [])) []) (some_same e) (base 0, refl, refl)
    types (suc m) A e = absurd (none_is e)

    none : (t : Skeleton) → IsPatternTerm Zeros (context_metavariables (pi nat nat ∷ [])) [] (root (metavariable 0) (app z nil)) t → ⊥
    none (arrow a b) p = p
    none (base c) (A, e, q, d) = constant_fails (of_function A (app z nil) [] (some_same e) d)

pub nat_has_no_indices : NatHasNoIndices
nat_has_no_indices = (nat_alone, λ h. taken (h 2 refl))
  where
    taken : {K : Kind} → Some (kind_pi nat K) ≡ Some star → ⊥
    taken e = cc

    nat_alone : HaveNoIndices Zeros (same_number 0)
    nat_alone zero e = refl
    nat_alone (suc a) e = absurd cc
