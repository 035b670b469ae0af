-- The variables that occur in a term, and values that differ only elsewhere.
use Rattle.std.proofs.Common.{◌≡◌, ℕ, zero, suc, refl, ◌∙◌, arith}
use Rattle.std.specs.Prelude.{◌+◌, ◌≤◌, Bool, true, false, not, cond}
use Rattle.lf.specs.Syntax.{constant, variable, metavariable, Term, Spine, lambda, root, nil, app}
use Rattle.lf.specs.Substitution.{Image, substitute, reduce}
use Rattle.lf.specs.AtOnce.{lift_by}
use Rattle.lf.specs.Variables.{under, Uses, UsesSpine, same_number}
use Rattle.lf.proofs.Agreement.{agree_on}
use Rattle.lf.proofs.Checker.{number_itself}
use Rattle.lf_checks.specs.Tests.{either}
use Rattle.lf_cases.specs.Full.{occurrences, occurrences_spine}
use Rattle.lf_coverage.specs.TermMatching.{hidden, over}
use Rattle.lf_coverage.proofs.Choices.{either_second}
use Rattle.lf_coverage.proofs.UnderBound.{hidden_over, lifted_same}

-- a term that occurs uses the variables that occur in it
pub sum_first : (m n : ℕ) → m + n ≡ 0 → m ≡ 0
sum_first m n e = omega arith

pub sum_second : (m n : ℕ) → m + n ≡ 0 → n ≡ 0
sum_second m n e = omega arith

mutual
  pub uses_occurring : (U : ℕ → Bool) (M : Term) → ((i : ℕ) → (occurrences i M ≡ 0 → ⊥) → U i ≡ true) → Uses U M
  uses_occurring U (lambda M) h = uses_occurring (under U) M at
    where
      at : (i : ℕ) → (occurrences i M ≡ 0 → ⊥) → under U i ≡ true
      at zero k = refl
      at (suc i) k = h i k
  uses_occurring U (root (constant c) S) h = uses_occurring_spine U S h
  uses_occurring U (root (metavariable m) S) h = uses_occurring_spine U S h
  uses_occurring U (root (variable j) S) h = (h j (λ e. first (same_number j j) (occurrences_spine j S) (number_itself j) e), uses_occurring_spine U S (λ i k. h i (λ e. k (rest (same_number i j) (occurrences_spine i S) e))))
    where
      first : (b : Bool) (n : ℕ) → b ≡ true → cond b 1 0 + n ≡ 0 → ⊥
      first true n q e = omega arith
      first false n q e = absurd cc

      rest : (b : Bool) (n : ℕ) → cond b 1 0 + n ≡ 0 → n ≡ 0
      rest true n e = omega arith
      rest false n e = omega arith

  pub uses_occurring_spine : (U : ℕ → Bool) (S : Spine) → ((i : ℕ) → (occurrences_spine i S ≡ 0 → ⊥) → U i ≡ true) → UsesSpine U S
  uses_occurring_spine U nil h = tt
  uses_occurring_spine U (app M S) h = (uses_occurring U M (λ i k. h i (λ e. k (sum_first (occurrences i M) (occurrences_spine i S) e))), uses_occurring_spine U S (λ i k. h i (λ e. k (sum_second (occurrences i M) (occurrences_spine i S) e))))

-- a number above zero
abbrev pub positive : ℕ → Bool
positive zero = false
positive (suc k) = true

pub is_positive : (k : ℕ) → (k ≡ 0 → ⊥) → positive k ≡ true
is_positive zero h = absurd (h refl)
is_positive (suc k) h = refl

pub above_zero : (k : ℕ) → positive k ≡ true → k ≡ 0 → ⊥
above_zero zero e q = absurd cc
above_zero (suc k) e q = absurd cc

pub either_not : (a b : Bool) → a ≡ true → either (not a) b ≡ true → b ≡ true
either_not true b p e = e
either_not false b p e = absurd cc

-- among two parts, of which one occurs, the other doesn't
pub other_part : (m n : ℕ) → m + n ≤ 1 → (m ≡ 0 → ⊥) → n ≡ 0
other_part zero n h k = absurd (k refl)
other_part (suc m) n h k = omega arith

pub at_most_first : (m n : ℕ) → m + n ≤ 1 → m ≤ 1
at_most_first m n h = omega arith

pub at_most_second : (m n : ℕ) → m + n ≤ 1 → n ≤ 1
at_most_second m n h = omega arith

-- other values than those of a variable of the term leave it
pub stays : (P : ℕ → Bool) (n : ℕ) (θ υ : ℕ → Image) (N : Term) → ((x : ℕ) → (P x ≡ true → occurrences (over n x) N ≡ 0 → ⊥) → υ x ≡ θ x) → substitute reduce (lift_by n υ) N ≡ substitute reduce (lift_by n θ) N
stays P n θ υ N h =
    let U : ℕ → Bool = λ i. either (not (hidden n P i)) (positive (occurrences i N)) in
    agree_on reduce U (lift_by n υ) (lift_by n θ) N (lifted_same n U υ θ (λ x e. h x (λ p. above_zero (occurrences (over n x) N) (either_not (hidden n P (over n x)) (positive (occurrences (over n x) N)) (hidden_over n P x ∙ p) e)))) (uses_occurring U N (λ i k. either_second (not (hidden n P i)) (positive (occurrences i N)) (is_positive (occurrences i N) k)))
