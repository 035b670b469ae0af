-- Where the head of a constant's clause has patterns, each variable in it has a strict occurrence.
use Rattle.std.proofs.Common.{◌≡◌, ℕ, zero, suc, List, [], ◌∷◌, refl, sym, ap, ◌∙◌, subst, arith, true≢false}
use Rattle.std.specs.Prelude.{◌+◌, ◌≤◌, Bool, true, false, not, cond, Option, Some, None}
use Rattle.lf.specs.Syntax.{constant, variable, metavariable, Term, Spine, lambda, root, nil, app, LfType, Kind, pi, atom, kind_pi, star}
use Rattle.lf.specs.Typing.{Signature, HasType, SpineType, SpineFitsKind, instantiate_type, instantiate_kind}
use Rattle.lf.specs.Variables.{binders, target_arguments, hide, nothing, everything, same_number}
use Rattle.lf.proofs.Checker.{both_of}
use Rattle.lf_checks.specs.Clause.{constant_clause, outside, variables}
use Rattle.lf_checks.specs.Marks.{UsesPlaces}
use Rattle.lf_checks.specs.Tests.{both, either, is_in}
use Rattle.lf_checks.specs.Strict.{head_variable, is_bound, pattern_arguments, with_seen, eta_at, new_arguments, strict, strict_spine, strict_at}
use Rattle.lf_checks.proofs.EtaTest.{both_l, both_r}
use Rattle.lf_checks.proofs.Reach.{number_equal}
use Rattle.lf_cases.specs.Full.{occurrences, occurrences_spine, occurrences_at}
use Rattle.lf_cases.specs.Pattern.{is_given}
use Rattle.lf_coverage.specs.TermMatching.{HasPatterns, HavePatterns, bound, hidden, over}
use Rattle.lf_coverage.specs.FullMatching.{PlacesHavePatterns, HeadsAreStrict}
use Rattle.lf_coverage.proofs.Choices.{decided, either_first, either_second}
use Rattle.lf_coverage.proofs.UnderBound.{hidden_over, pattern_here, patterns_inside}
use Rattle.lf_coverage.proofs.Occurring.{uses_occurring, sum_first, sum_second}
use Rattle.lf_coverage.proofs.InputsMatching.{target_fits}
use Rattle.lf_coverage.proofs.HeadVariables.{own_in_head, nothing_more, no_sum}

-- numbers that differ
less_differs : (k z : ℕ) → suc k ≤ z → same_number z k ≡ false
less_differs k z h = decided (same_number z k) (λ e. absurd (smaller (number_equal z k e) h)) (λ e. e)
  where
    smaller : z ≡ k → suc k ≤ z → ⊥
    smaller e h = omega arith

pub same_turned : (i j : ℕ) → same_number i j ≡ same_number j i
same_turned zero zero = refl
same_turned zero (suc j) = refl
same_turned (suc i) zero = refl
same_turned (suc i) (suc j) = same_turned i j

mutual
  -- a variable up to eta mentions no other
  only_itself : (k y z : ℕ) (M : Term) → eta_at k y M ≡ true → same_number z y ≡ false → k ≤ z → occurrences z M ≡ 0
  only_itself k y z (lambda M) e d h = only_itself (suc k) (suc y) (suc z) M e d (omega arith)
  only_itself k y z (root (constant c) S) e d h = absurd cc
  only_itself k y z (root (metavariable m) S) e d h = absurd cc
  only_itself k y z (root (variable j) S) e d h = nothing_more (same_number z j) (occurrences_spine z S) (subst (λ i. same_number z i ≡ false) (sym (number_equal j y (both_l (same_number j y) (new_arguments k S) e))) d) (only_new k z S (both_r (same_number j y) (new_arguments k S) e) h)

  only_new : (k z : ℕ) (S : Spine) → new_arguments k S ≡ true → k ≤ z → occurrences_spine z S ≡ 0
  only_new zero z nil e h = refl
  only_new zero z (app M S) e h = absurd cc
  only_new (suc k) z nil e h = absurd cc
  only_new (suc k) z (app M S) e h = no_sum (occurrences z M) (occurrences_spine z S) (only_itself zero k z M (both_l (eta_at zero k M) (new_arguments k S) e) (less_differs k z h) (omega arith)) (only_new k z S (both_r (eta_at zero k M) (new_arguments k S) e) (omega arith))

pub not_bound : (n x : ℕ) → bound n (over n x) ≡ false
not_bound zero x = refl
not_bound (suc n) x = not_bound n x

-- the arguments of a pattern mention bound variables alone
argument_alone : (n x : ℕ) (seen : List ℕ) (M : Term) (o : Option ℕ) → is_bound (bound n) seen M o ≡ true → occurrences (over n x) M ≡ 0
argument_alone n x seen M None e = absurd cc
argument_alone n x seen M (Some y) e = only_itself zero y (over n x) M (both_l (eta_at zero y M) (both (bound n y) (not (is_in y seen))) e) differs (omega arith)
  where
    is_bound_one : bound n y ≡ true
    is_bound_one = both_l (bound n y) (not (is_in y seen)) (both_r (eta_at zero y M) (both (bound n y) (not (is_in y seen))) e)

    differs : same_number (over n x) y ≡ false
    differs = decided (same_number (over n x) y) (λ q. absurd (true≢false (sym is_bound_one ∙ ap (bound n) (sym (number_equal (over n x) y q)) ∙ not_bound n x))) (λ q. q)

arguments_alone : (n x : ℕ) (seen : List ℕ) (S : Spine) → pattern_arguments (bound n) seen S ≡ true → occurrences_spine (over n x) S ≡ 0
arguments_alone n x seen nil e = refl
arguments_alone n x seen (app M S) e = no_sum (occurrences (over n x) M) (occurrences_spine (over n x) S) (argument_alone n x seen M (head_variable zero M) (both_l (is_bound (bound n) seen M (head_variable zero M)) (pattern_arguments (bound n) (with_seen (head_variable zero M) seen) S) e)) (arguments_alone n x (with_seen (head_variable zero M) seen) S (both_r (is_bound (bound n) seen M (head_variable zero M)) (pattern_arguments (bound n) (with_seen (head_variable zero M) seen) S) e))

hidden_or_bound : (n j : ℕ) → hidden n everything j ≡ false → bound n j ≡ true
hidden_or_bound zero j e = absurd (true≢false e)
hidden_or_bound (suc n) zero e = refl
hidden_or_bound (suc n) (suc j) e = hidden_or_bound n j e

-- one of two numbers isn't zero
one_of_two : {A : Type 0} (m n : ℕ) → (m + n ≡ 0 → ⊥) → ((m ≡ 0 → ⊥) → A) → ((n ≡ 0 → ⊥) → A) → A
one_of_two zero n h f g = g (λ e. h (omega arith))
one_of_two (suc m) n h f g = f (λ e. absurd (omega arith))

module _ (Σ : Signature) where
  mutual
    strict_term : (n x : ℕ) (F : ℕ → Bool) (G : List LfType) (N : Term) (A : LfType) → HasType Σ G N A → HasPatterns (bound n) (hidden n everything) N → (occurrences (over n x) N ≡ 0 → ⊥) → strict (bound n) F (over n x) N ≡ true
    strict_term n x F G (lambda N) (pi A B) t h o = strict_term (suc n) x (hide F) (A ∷ G) N B t h o
    strict_term n x F G (lambda N) (atom a T) t h o = absurd t
    strict_term n x F G (root k S) (pi A B) t h o = absurd t
    strict_term n x F G (root (constant c) S) (atom a T) (X, k, s) h o = strict_arguments n x F G S X (atom a T) s h o
    strict_term n x F G (root (metavariable m) S) (atom a T) (X, k, s) h o = absurd k
    strict_term n x F G (root (variable j) S) (atom a T) (X, k, s) h o =
        decided (hidden n everything j)
        (λ p. at_variable j S (pattern_here (bound n) (hidden n everything) j S p h) o)
        (λ p. either_second (both (same_number j (over n x)) (pattern_arguments (bound n) [] S)) (both (either (bound n j) (F j)) (strict_spine (bound n) F (over n x) S)) (both_of (either (bound n j) (F j)) (strict_spine (bound n) F (over n x) S) (either_first (bound n j) (F j) (hidden_or_bound n j p)) (strict_arguments n x F G S X (atom a T) s (patterns_inside (bound n) (hidden n everything) j S p h) (λ e. o (nothing_more (same_number (over n x) j) (occurrences_spine (over n x) S) (other j p) e)))))
      where
        other : (j : ℕ) → hidden n everything j ≡ false → same_number (over n x) j ≡ false
        other j p = decided (same_number (over n x) j) (λ q. absurd (true≢false (sym (hidden_over n everything x) ∙ ap (hidden n everything) (number_equal (over n x) j q) ∙ p))) (λ q. q)

        at_variable : (j : ℕ) (S : Spine) → pattern_arguments (bound n) [] S ≡ true → (cond (same_number (over n x) j) 1 0 + occurrences_spine (over n x) S ≡ 0 → ⊥) → either (both (same_number j (over n x)) (pattern_arguments (bound n) [] S)) (both (either (bound n j) (F j)) (strict_spine (bound n) F (over n x) S)) ≡ true
        at_variable j S e o = decided (same_number (over n x) j) (λ q. either_first (both (same_number j (over n x)) (pattern_arguments (bound n) [] S)) (both (either (bound n j) (F j)) (strict_spine (bound n) F (over n x) S)) (both_of (same_number j (over n x)) (pattern_arguments (bound n) [] S) (same_turned j (over n x) ∙ q) e)) (λ q. absurd (o (nothing_more (same_number (over n x) j) (occurrences_spine (over n x) S) q (arguments_alone n x [] S e))))

    strict_arguments : (n x : ℕ) (F : ℕ → Bool) (G : List LfType) (S : Spine) (A C : LfType) → SpineType Σ G S A C → HavePatterns (bound n) (hidden n everything) S → (occurrences_spine (over n x) S ≡ 0 → ⊥) → strict_spine (bound n) F (over n x) S ≡ true
    strict_arguments n x F G nil A C s h o = absurd (o refl)
    strict_arguments n x F G (app N S) (pi A B) C (t, s) (h, hs) o = one_of_two (occurrences (over n x) N) (occurrences_spine (over n x) S) o (λ e. either_first (strict (bound n) F (over n x) N) (strict_spine (bound n) F (over n x) S) (strict_term n x F G N A t h e)) (λ e. either_second (strict (bound n) F (over n x) N) (strict_spine (bound n) F (over n x) S) (strict_arguments n x F G S (instantiate_type A N B) C s hs e))
    strict_arguments n x F G (app N S) (atom a T) C s h o = absurd s

  strict_places : (m : List Bool) (x : ℕ) (F : ℕ → Bool) (G : List LfType) (S : Spine) (K : Kind) → SpineFitsKind Σ G S K → PlacesHavePatterns nothing everything m S → (occurrences_at m x S ≡ 0 → ⊥) → strict_at m nothing F x S ≡ true
  strict_places [] x F G S K s h o = absurd (o refl)
  strict_places (b ∷ m) x F G nil K s h o = absurd (o refl)
  strict_places (b ∷ m) x F G (app N S) star s h o = absurd s
  strict_places (true ∷ m) x F G (app N S) (kind_pi A K) (t, s) (h, hs) o = one_of_two (occurrences x N) (occurrences_at m x S) o (λ e. either_first (strict nothing F x N) (strict_at m nothing F x S) (strict_term zero x F G N A t h e)) (λ e. either_second (strict nothing F x N) (strict_at m nothing F x S) (strict_places m x F G S (instantiate_kind A N K) s hs e))
  strict_places (false ∷ m) x F G (app N S) (kind_pi A K) (t, s) h o = strict_places m x F G S (instantiate_kind A N K) s h o

uses_places : (V : ℕ → Bool) (m : List Bool) (S : Spine) → ((x : ℕ) → (occurrences_at m x S ≡ 0 → ⊥) → V x ≡ true) → UsesPlaces V m S
uses_places V [] S h = tt
uses_places V (b ∷ m) nil h = tt
uses_places V (true ∷ m) (app N S) h = (uses_occurring V N (λ x o. h x (λ e. o (sum_first (occurrences x N) (occurrences_at m x S) e))), uses_places V m S (λ x o. h x (λ e. o (sum_second (occurrences x N) (occurrences_at m x S) e))))
uses_places V (false ∷ m) (app N S) h = uses_places V m S h

pub heads_are_strict : HeadsAreStrict
heads_are_strict Σ U t m Ms h =
    let (K, e, fits) = target_fits Σ [] U t in
    uses_places (λ i. either (is_given Ms i) (either (outside U everything i) (both (variables (constant_clause U) i) (strict_at m nothing (outside U nothing) i (target_arguments U))))) m (target_arguments U) (λ x o. either_second (is_given Ms x) (either (outside U everything x) (both (variables (constant_clause U) x) (strict_at m nothing (outside U nothing) x (target_arguments U)))) (either_second (outside U everything x) (both (variables (constant_clause U) x) (strict_at m nothing (outside U nothing) x (target_arguments U))) (both_of (variables (constant_clause U) x) (strict_at m nothing (outside U nothing) x (target_arguments U)) (own_in_head Σ U t m x o) (strict_places Σ m x (outside U nothing) (binders [] U) (target_arguments U) K fits h o))))
