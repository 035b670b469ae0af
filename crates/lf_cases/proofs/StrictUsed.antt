-- What occurs strictly is used.
use Rattle.std.proofs.Common.{◌≡◌, ℕ, suc, List, [], ◌∷◌, sym, ap, ◌∙◌, inl, inr}
use Rattle.std.specs.Prelude.{Bool, true, false, ◌⊎◌}
use Rattle.lf.specs.Syntax.{constant, variable, metavariable, Term, Spine, lambda, root, nil, app, LfType, pi, atom}
use Rattle.lf.specs.Variables.{under, hide, Uses, UsesSpine, same_number}
use Rattle.lf.proofs.Checker.{number_is}
use Rattle.lf_checks.specs.Tests.{both, either}
use Rattle.lf_checks.specs.Ground.{UsesGoal}
use Rattle.lf_checks.specs.Marks.{UsesPlaces}
use Rattle.lf_checks.specs.Strict.{pattern_arguments, strict, strict_spine, strict_at, strict_goal}
use Rattle.lf_checks.proofs.EtaTest.{both_l, both_r}
use Rattle.lf_checks.proofs.StrictTypes.{either_cases}

mutual
  strict_used : (U B F : ℕ → Bool) (x : ℕ) (M : Term) → Uses U M → strict B F x M ≡ true → U x ≡ true
  strict_used U B F x (lambda M) u e = strict_used (under U) (under B) (hide F) (suc x) M u e
  strict_used U B F x (root (constant c) S) u e = spine_used U B F x S u e
  strict_used U B F x (root (metavariable m) S) u e = absurd cc
  strict_used U B F x (root (variable j) S) u e = by (either_cases (both (same_number j x) (pattern_arguments B [] S)) (both (either (B j) (F j)) (strict_spine B F x S)) e) (λ q. spine_used U B F x S u.1 q)
    where
      by : (both (same_number j x) (pattern_arguments B [] S) ≡ true) ⊎ (both (either (B j) (F j)) (strict_spine B F x S) ≡ true) → (strict_spine B F x S ≡ true → U x ≡ true) → U x ≡ true
      by (inl q) f = ap U (sym (number_is j x (both_l (same_number j x) (pattern_arguments B [] S) q))) ∙ u.0
      by (inr q) f = f (both_r (either (B j) (F j)) (strict_spine B F x S) q)

  spine_used : (U B F : ℕ → Bool) (x : ℕ) (S : Spine) → UsesSpine U S → strict_spine B F x S ≡ true → U x ≡ true
  spine_used U B F x nil u e = absurd cc
  spine_used U B F x (app M S) u e = by (either_cases (strict B F x M) (strict_spine B F x S) e) (λ q. strict_used U B F x M u.0 q) (λ q. spine_used U B F x S u.1 q)
    where
      by : (strict B F x M ≡ true) ⊎ (strict_spine B F x S ≡ true) → (strict B F x M ≡ true → U x ≡ true) → (strict_spine B F x S ≡ true → U x ≡ true) → U x ≡ true
      by (inl q) f k = f q
      by (inr q) f k = k q

pub places_used : (U : ℕ → Bool) (m : List Bool) (B F : ℕ → Bool) (x : ℕ) (S : Spine) → UsesPlaces U m S → strict_at m B F x S ≡ true → U x ≡ true
places_used U [] B F x S u e = absurd cc
places_used U (b ∷ m) B F x nil u e = absurd cc
places_used U (true ∷ m) B F x (app M S) u e = by (either_cases (strict B F x M) (strict_at m B F x S) e) (λ q. strict_used U B F x M u.0 q) (λ q. places_used U m B F x S u.1 q)
  where
    by : (strict B F x M ≡ true) ⊎ (strict_at m B F x S ≡ true) → (strict B F x M ≡ true → U x ≡ true) → (strict_at m B F x S ≡ true → U x ≡ true) → U x ≡ true
    by (inl q) f k = f q
    by (inr q) f k = k q
places_used U (false ∷ m) B F x (app M S) u e = places_used U m B F x S u e

-- the same of a subgoal
pub goal_used : (U : ℕ → Bool) (m : List Bool) (B F : ℕ → Bool) (x : ℕ) (A : LfType) → UsesGoal U m A → strict_goal m B F x A ≡ true → U x ≡ true
goal_used U m B F x (pi A C) u e = goal_used (under U) m (under B) (hide F) (suc x) C u.1 e
goal_used U m B F x (atom a S) u e = places_used U m B F x S u e
