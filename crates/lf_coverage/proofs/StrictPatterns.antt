-- Where each variable in chosen places of a linear head has a strict occurrence, all stand on distinct bound variables there.
use Rattle.std.proofs.Common.{◌≡◌, ℕ, zero, suc, ◌⊎◌, List, [], ◌∷◌, inl, inr, refl, sym, ap, ◌∙◌, arith, true≢false}
use Rattle.std.specs.Prelude.{◌+◌, ◌≤◌, Bool, true, false, cond}
use Rattle.lf.specs.Syntax.{constant, variable, metavariable, Term, Spine, lambda, root, nil, app, LfType, Kind, pi, atom, kind_pi, star}
use Rattle.lf.specs.Typing.{Signature, HasType, SpineType, SpineFitsKind, instantiate_type, instantiate_kind}
use Rattle.lf.specs.Variables.{binders, target, target_arguments, under, hide, nothing, everything, same_number}
use Rattle.lf.proofs.Checker.{number_itself}
use Rattle.lf_checks.specs.Clause.{constant_clause, outside}
use Rattle.lf_checks.specs.Marks.{UsesPlaces, input_places}
use Rattle.lf_checks.specs.Strict.{pattern_arguments, strict, strict_spine, strict_at}
use Rattle.lf_checks.specs.Tests.{both, either}
use Rattle.lf_checks.proofs.EtaTest.{both_l, both_r}
use Rattle.lf_checks.proofs.StrictTypes.{either_cases}
use Rattle.lf_checks.proofs.Reach.{number_equal}
use Rattle.lf_cases.specs.Full.{occurrences, occurrences_spine, occurrences_at}
use Rattle.lf_cases.specs.Pattern.{ground_in, head_pattern, of_constant}
use Rattle.lf_coverage.specs.FullMatching.{PlacesHavePatterns}
use Rattle.lf_coverage.specs.Stuck.{StrictIsPattern}
use Rattle.lf_coverage.specs.TermMatching.{HasPatterns, HavePatterns, bound, hidden, over}
use Rattle.lf_coverage.proofs.Choices.{decided, first_chosen, second_chosen}
use Rattle.lf_coverage.proofs.InputsMatching.{none_outside, target_fits}
use Rattle.lf_coverage.proofs.Matching.{ground_is_strict}
use Rattle.lf_coverage.proofs.HeadVariables.{inside_in_head, never_occurs, no_sum, not_used, once_in_head}
use Rattle.lf_coverage.proofs.StrictHeads.{not_bound, same_turned}
use Rattle.lf_coverage.proofs.UnderBound.{hidden_is_over, hidden_over}

here_counts : (b : Bool) (n : ℕ) → b ≡ true → cond b 1 0 + n ≡ 0 → ⊥
here_counts true n q e = omega arith
here_counts false n q e = absurd cc

others_zero : (b : Bool) (n : ℕ) → cond b 1 0 + n ≡ 0 → n ≡ 0
others_zero true n e = omega arith
others_zero false n e = omega arith

others_most : (b : Bool) (n : ℕ) → cond b 1 0 + n ≤ 1 → n ≤ 1
others_most true n e = omega arith
others_most false n e = omega arith

first_zero : (m n : ℕ) → m + n ≡ 0 → m ≡ 0
first_zero m n e = omega arith

second_zero : (m n : ℕ) → m + n ≡ 0 → n ≡ 0
second_zero m n e = omega arith

first_most : (m n : ℕ) → m + n ≤ 1 → m ≤ 1
first_most m n e = omega arith

second_most : (m n : ℕ) → m + n ≤ 1 → n ≤ 1
second_most m n e = omega arith

too_many : (m n : ℕ) → m + n ≤ 1 → (m ≡ 0 → ⊥) → (n ≡ 0 → ⊥) → ⊥
too_many zero n e f g = f refl
too_many (suc m) zero e f g = g refl
too_many (suc m) (suc n) e f g = omega arith

mutual
  -- what is strict occurs
  strict_occurs : (B F : ℕ → Bool) (x : ℕ) (N : Term) → strict B F x N ≡ true → occurrences x N ≡ 0 → ⊥
  strict_occurs B F x (lambda N) e o = strict_occurs (under B) (hide F) (suc x) N e o
  strict_occurs B F x (root (constant c) S) e o = spine_occurs B F x S e o
  strict_occurs B F x (root (metavariable c) S) e o = absurd cc
  strict_occurs B F x (root (variable j) S) e o = by (either_cases (both (same_number j x) (pattern_arguments B [] S)) (both (either (B j) (F j)) (strict_spine B F x S)) e) (λ q. spine_occurs B F x S q (others_zero (same_number x j) (occurrences_spine x S) o))
    where
      by : (both (same_number j x) (pattern_arguments B [] S) ≡ true) ⊎ (both (either (B j) (F j)) (strict_spine B F x S) ≡ true) → (strict_spine B F x S ≡ true → ⊥) → ⊥
      by (inl q) r = here_counts (same_number x j) (occurrences_spine x S) (same_turned x j ∙ both_l (same_number j x) (pattern_arguments B [] S) q) o
      by (inr q) r = r (both_r (either (B j) (F j)) (strict_spine B F x S) q)

  spine_occurs : (B F : ℕ → Bool) (x : ℕ) (S : Spine) → strict_spine B F x S ≡ true → occurrences_spine x S ≡ 0 → ⊥
  spine_occurs B F x nil e o = absurd cc
  spine_occurs B F x (app N S) e o = by (either_cases (strict B F x N) (strict_spine B F x S) e) (λ q. strict_occurs B F x N q (first_zero (occurrences x N) (occurrences_spine x S) o)) (λ q. spine_occurs B F x S q (second_zero (occurrences x N) (occurrences_spine x S) o))
    where
      by : {X Y : Type 0} → X ⊎ Y → (X → ⊥) → (Y → ⊥) → ⊥
      by (inl q) f g = f q
      by (inr q) f g = g q

places_occur : (m : List Bool) (B F : ℕ → Bool) (x : ℕ) (S : Spine) → strict_at m B F x S ≡ true → occurrences_at m x S ≡ 0 → ⊥
places_occur [] B F x S e o = absurd cc
places_occur (b ∷ m) B F x nil e o = absurd cc
places_occur (true ∷ m) B F x (app N S) e o = by (either_cases (strict B F x N) (strict_at m B F x S) e) (λ q. places_occur m B F x S q (second_zero (occurrences x N) (occurrences_at m x S) o))
  where
    by : (strict B F x N ≡ true) ⊎ (strict_at m B F x S ≡ true) → (strict_at m B F x S ≡ true → ⊥) → ⊥
    by (inl q) r = strict_occurs B F x N q (first_zero (occurrences x N) (occurrences_at m x S) o)
    by (inr q) r = r q
places_occur (false ∷ m) B F x (app N S) e o = places_occur m B F x S e o

-- of two, the one that is strict where one occurs
strict_first : (a b : Bool) (m n : ℕ) → m + n ≤ 1 → (b ≡ true → n ≡ 0 → ⊥) → either a b ≡ true → (m ≡ 0 → ⊥) → a ≡ true
strict_first true b m n h f e o = refl
strict_first false b m n h f e o = absurd (too_many m n h o (f e))

strict_second : (a b : Bool) (m n : ℕ) → m + n ≤ 1 → (a ≡ true → m ≡ 0 → ⊥) → either a b ≡ true → (n ≡ 0 → ⊥) → b ≡ true
strict_second true b m n h f e o = absurd (too_many m n h (f refl) o)
strict_second false b m n h f e o = e

none_hidden : (F : ℕ → Bool) → ((j : ℕ) → F j ≡ false) → (j : ℕ) → hide F j ≡ false
none_hidden F h zero = refl
none_hidden F h (suc j) = h j

-- a variable that is none of the bound and fixed ones is a pattern where it is strict
pattern_there : (a p b f r : Bool) → b ≡ false → f ≡ false → either (both a p) (both (either b f) r) ≡ true → p ≡ true
pattern_there true true b f r h k e = refl
pattern_there true false true f r h k e = absurd cc
pattern_there true false false true r h k e = absurd cc
pattern_there true false false false r h k e = absurd cc
pattern_there false p true f r h k e = absurd cc
pattern_there false p false true r h k e = absurd cc
pattern_there false p false false r h k e = absurd cc

-- another one is strict in its arguments
strict_inside : (a p b r : Bool) → a ≡ false → either (both a p) (both b r) ≡ true → r ≡ true
strict_inside true p b r h e = absurd cc
strict_inside false p true r h e = e
strict_inside false p false r h e = absurd cc

module _ (Σ : Signature) where
  mutual
    patterns_term : (n : ℕ) (F : ℕ → Bool) → ((j : ℕ) → F j ≡ false) → (G : List LfType) (N : Term) (A : LfType) → HasType Σ G N A → ((x : ℕ) → occurrences (over n x) N ≤ 1) → ((x : ℕ) → (occurrences (over n x) N ≡ 0 → ⊥) → strict (bound n) F (over n x) N ≡ true) → HasPatterns (bound n) (hidden n everything) N
    patterns_term n F f G (lambda N) (pi A B) t once s = patterns_term (suc n) (hide F) (none_hidden F f) (A ∷ G) N B t once s
    patterns_term n F f G (lambda N) (atom a T) t once s = absurd t
    patterns_term n F f G (root k S) (pi A B) t once s = absurd t
    patterns_term n F f G (root (constant c) S) (atom a T) (X, k, t) once s = patterns_spine n F f G S X (atom a T) t once s
    patterns_term n F f G (root (metavariable m) S) (atom a T) (X, k, t) once s = absurd k
    patterns_term n F f G (root (variable j) S) (atom a T) (X, k, t) once s =
        let Here : Type 0 = pattern_arguments (bound n) [] S ≡ true in
        let In : Type 0 = HavePatterns (bound n) (hidden n everything) S in
        decided (hidden n everything j)
        (λ p. first_chosen Here In (hidden n everything j) p (let (y, q, r) = hidden_is_over n everything j p in pattern_there (same_number j (over n y)) (pattern_arguments (bound n) [] S) (bound n j) (F j) (strict_spine (bound n) F (over n y) S) (ap (bound n) q ∙ not_bound n y) (f j) (s y (here_counts (same_number (over n y) j) (occurrences_spine (over n y) S) (ap (same_number (over n y)) q ∙ number_itself (over n y))))))
        (λ p. second_chosen Here In (hidden n everything j) p (patterns_spine n F f G S X (atom a T) t (λ x. others_most (same_number (over n x) j) (occurrences_spine (over n x) S) (once x)) (λ x o. strict_inside (same_number j (over n x)) (pattern_arguments (bound n) [] S) (either (bound n j) (F j)) (strict_spine (bound n) F (over n x) S) (other j p x) (s x (λ z. o (others_zero (same_number (over n x) j) (occurrences_spine (over n x) S) z))))))
      where
        other : (j : ℕ) → hidden n everything j ≡ false → (x : ℕ) → same_number j (over n x) ≡ false
        other j p x = decided (same_number j (over n x)) (λ q. absurd (true≢false (sym (hidden_over n everything x) ∙ ap (hidden n everything) (sym (number_equal j (over n x) q)) ∙ p))) (λ q. q)

    patterns_spine : (n : ℕ) (F : ℕ → Bool) → ((j : ℕ) → F j ≡ false) → (G : List LfType) (S : Spine) (A C : LfType) → SpineType Σ G S A C → ((x : ℕ) → occurrences_spine (over n x) S ≤ 1) → ((x : ℕ) → (occurrences_spine (over n x) S ≡ 0 → ⊥) → strict_spine (bound n) F (over n x) S ≡ true) → HavePatterns (bound n) (hidden n everything) S
    patterns_spine n F f G nil A C t once s = tt
    patterns_spine n F f G (app N S) (atom a T) C t once s = absurd t
    patterns_spine n F f G (app N S) (pi A B) C (t, ts) once s = (
      patterns_term n F f G N A t (λ x. first_most (occurrences (over n x) N) (occurrences_spine (over n x) S) (once x)) (λ x o. strict_first (strict (bound n) F (over n x) N) (strict_spine (bound n) F (over n x) S) (occurrences (over n x) N) (occurrences_spine (over n x) S) (once x) (spine_occurs (bound n) F (over n x) S) (s x (λ z. o (first_zero (occurrences (over n x) N) (occurrences_spine (over n x) S) z))) o),
      patterns_spine n F f G S (instantiate_type A N B) C ts (λ x. second_most (occurrences (over n x) N) (occurrences_spine (over n x) S) (once x)) (λ x o. strict_second (strict (bound n) F (over n x) N) (strict_spine (bound n) F (over n x) S) (occurrences (over n x) N) (occurrences_spine (over n x) S) (once x) (strict_occurs (bound n) F (over n x) N) (s x (λ z. o (second_zero (occurrences (over n x) N) (occurrences_spine (over n x) S) z))) o),
    )

  patterns_places : (m : List Bool) (F : ℕ → Bool) → ((j : ℕ) → F j ≡ false) → (G : List LfType) (S : Spine) (K : Kind) → SpineFitsKind Σ G S K → ((x : ℕ) → occurrences_at m x S ≤ 1) → ((x : ℕ) → (occurrences_at m x S ≡ 0 → ⊥) → strict_at m nothing F x S ≡ true) → PlacesHavePatterns nothing everything m S
  patterns_places [] F f G S K t once s = tt
  patterns_places (b ∷ m) F f G nil K t once s = tt
  patterns_places (b ∷ m) F f G (app N S) star t once s = absurd t
  patterns_places (true ∷ m) F f G (app N S) (kind_pi A K) (t, ts) once s = (
    patterns_term zero F f G N A t (λ x. first_most (occurrences x N) (occurrences_at m x S) (once x)) (λ x o. strict_first (strict nothing F x N) (strict_at m nothing F x S) (occurrences x N) (occurrences_at m x S) (once x) (places_occur m nothing F x S) (s x (λ z. o (first_zero (occurrences x N) (occurrences_at m x S) z))) o),
    patterns_places m F f G S (instantiate_kind A N K) ts (λ x. second_most (occurrences x N) (occurrences_at m x S) (once x)) (λ x o. strict_second (strict nothing F x N) (strict_at m nothing F x S) (occurrences x N) (occurrences_at m x S) (once x) (strict_occurs nothing F x N) (s x (λ z. o (second_zero (occurrences x N) (occurrences_at m x S) z))) o),
  )
  patterns_places (false ∷ m) F f G (app N S) (kind_pi A K) (t, ts) once s = patterns_places m F f G S (instantiate_kind A N K) ts once s

-- what isn't used doesn't occur
absent_at : (V : ℕ → Bool) (m : List Bool) (x : ℕ) (S : Spine) → V x ≡ false → UsesPlaces V m S → occurrences_at m x S ≡ 0
absent_at V [] x S e u = refl
absent_at V (b ∷ m) x nil e u = refl
absent_at V (true ∷ m) x (app N S) e (u, us) = no_sum (occurrences x N) (occurrences_at m x S) (never_occurs x N (not_used V x N e u)) (absent_at V m x S e us)
absent_at V (false ∷ m) x (app N S) e u = absent_at V m x S e u

pub strict_is_pattern : StrictIsPattern
strict_is_pattern Σ U t m lin u =
    let b : List Bool = input_places (m (target U)) in
    let T : Spine = target_arguments U in
    let V : ℕ → Bool = ground_in (head_pattern (constant_clause U) (of_constant U)) b [] in
    let (K, e, fits) = target_fits Σ [] U t in
    patterns_places Σ b (outside U nothing) (none_outside U nothing (λ j. refl)) (binders [] U) T K fits (once_in_head Σ U t m lin) (λ x o. ground_is_strict (head_pattern (constant_clause U) (of_constant U)) b [] x refl (inside_in_head Σ U t b x o) (decided (V x) (λ q. q) (λ q. absurd (o (absent_at V b x T q u)))))
