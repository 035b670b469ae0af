-- What existential variables are applied to stays so under renaming, and back, and where the outer variables are opened.
use Rattle.std.proofs.Common.{◌≡◌, ℕ, zero, suc, ◌⊎◌, [], inl, inr, refl, sym, ap, ◌∙◌, arith}
use Rattle.std.specs.Prelude.{Bool, true, false, not, cond}
use Rattle.lf.specs.Syntax.{constant, variable, metavariable, Term, Spine, lambda, root, nil, app, LfType, pi, atom, lift_renaming, rename, rename_spine, rename_type}
use Rattle.lf.specs.Variables.{under, hide}
use Rattle.lf.proofs.Checker.{both_of}
use Rattle.lf_unification.specs.Patterns.{Injective}
use Rattle.lf_unification.proofs.Inverse.{up_injective}
use Rattle.lf_checks.specs.Strict.{pattern_arguments}
use Rattle.lf_checks.proofs.EtaTest.{both_l, both_r}
use Rattle.lf_coverage.specs.Indices.{head_has_patterns, item_has_patterns, newer, spine_has_patterns, takes, term_has_patterns, universal}
use Rattle.lf_coverage.proofs.IndicesTests.{not_false, not_true, passes_back, passes_from, passes_renamed, passes_test}

-- one of two tests
pub choice : (b x y : Bool) → cond b x y ≡ true → ((b ≡ true) × (x ≡ true)) ⊎ ((b ≡ false) × (y ≡ true))
choice true x y e = inl (refl, e)
choice false x y e = inr (refl, e)

pub chosen : (b x y : Bool) → b ≡ true → x ≡ true → cond b x y ≡ true
chosen true x y e f = f
chosen false x y e f = absurd cc

pub passed_over : (b x y : Bool) → b ≡ false → y ≡ true → cond b x y ≡ true
passed_over true x y e f = absurd cc
passed_over false x y e f = f

pub takes_universal : (E : ℕ → Bool) (i j : ℕ) → takes E i j ≡ true → E j ≡ false
takes_universal E i j e = not_true (E j) (both_l (not (E j)) (newer j i) e)

pub takes_newer : (E : ℕ → Bool) (i j : ℕ) → takes E i j ≡ true → newer j i ≡ true
takes_newer E i j e = both_r (not (E j)) (newer j i) e

pub may_take : (E : ℕ → Bool) (i j : ℕ) → E j ≡ false → newer j i ≡ true → takes E i j ≡ true
may_take E i j e f = both_of (not (E j)) (newer j i) (not_false (E j) e) f

-- A renaming that keeps existential variables and universal ones, these apart, and newer ones newer.
pub record Renames (E E' : ℕ → Bool) (ρ : ℕ → ℕ) : Type 0 where
  pub kind : (i : ℕ) → E' (ρ i) ≡ E i
  pub apart : (i j : ℕ) → E i ≡ false → E j ≡ false → ρ i ≡ ρ j → i ≡ j
  pub order : (i j : ℕ) → E i ≡ true → E j ≡ false → newer j i ≡ true → newer (ρ j) (ρ i) ≡ true

pub renames_hide : (E E' : ℕ → Bool) (ρ : ℕ → ℕ) → Renames E E' ρ → Renames (hide E) (hide E') (lift_renaming ρ)
renames_hide E E' ρ r = record { kind = kind; apart = apart; order = order }
  where
    kind : (i : ℕ) → hide E' (lift_renaming ρ i) ≡ hide E i
    kind zero = refl
    kind (suc i) = r.kind i

    apart : (i j : ℕ) → hide E i ≡ false → hide E j ≡ false → lift_renaming ρ i ≡ lift_renaming ρ j → i ≡ j
    apart zero zero e f q = refl
    apart zero (suc j) e f q = absurd (omega (arith, q))
    apart (suc i) zero e f q = absurd (omega (arith, q))
    apart (suc i) (suc j) e f q = ap suc (r.apart i j e f (omega (arith, q)))

    order : (i j : ℕ) → hide E i ≡ true → hide E j ≡ false → newer j i ≡ true → newer (lift_renaming ρ j) (lift_renaming ρ i) ≡ true
    order zero j e f n = absurd cc
    order (suc i) zero e f n = refl
    order (suc i) (suc j) e f n = r.order i j e f n

pub renames_under : (E E' : ℕ → Bool) (ρ : ℕ → ℕ) → Renames E E' ρ → Renames (under E) (under E') (lift_renaming ρ)
renames_under E E' ρ r = record { kind = kind; apart = apart; order = order }
  where
    kind : (i : ℕ) → under E' (lift_renaming ρ i) ≡ under E i
    kind zero = refl
    kind (suc i) = r.kind i

    apart : (i j : ℕ) → under E i ≡ false → under E j ≡ false → lift_renaming ρ i ≡ lift_renaming ρ j → i ≡ j
    apart zero j e f q = absurd cc
    apart (suc i) zero e f q = absurd cc
    apart (suc i) (suc j) e f q = ap suc (r.apart i j e f (omega (arith, q)))

    order : (i j : ℕ) → under E i ≡ true → under E j ≡ false → newer j i ≡ true → newer (lift_renaming ρ j) (lift_renaming ρ i) ≡ true
    order zero j e f n = absurd (by j n)
      where
        by : (j : ℕ) → newer j zero ≡ true → ⊥
        by zero n = cc
        by (suc j) n = cc
    order (suc i) zero e f n = absurd cc
    order (suc i) (suc j) e f n = r.order i j e f n

taken_renamed : (E E' : ℕ → Bool) (ρ : ℕ → ℕ) → Renames E E' ρ → (i : ℕ) → E i ≡ true → (S : Spine) → pattern_arguments (takes E i) [] S ≡ true → pattern_arguments (takes E' (ρ i)) [] (rename_spine ρ S) ≡ true
taken_renamed E E' ρ r i t S e = passes_test (takes E' (ρ i)) [] (rename_spine ρ S) (passes_renamed (takes E i) (takes E' (ρ i)) ρ [] [] S (λ y k. may_take E' (ρ i) (ρ y) (r.kind y ∙ takes_universal E i y k) (r.order i y t (takes_universal E i y k) (takes_newer E i y k))) (λ x y k l q. r.apart x y (takes_universal E i x k) (takes_universal E i y l) q) (λ y k f. refl) (passes_from (takes E i) [] S e))

at_variable : (E E' : ℕ → Bool) (ρ : ℕ → ℕ) → Renames E E' ρ → (i : ℕ) (S : Spine) → (spine_has_patterns E S ≡ true → spine_has_patterns E' (rename_spine ρ S) ≡ true) → ((E i ≡ true) × (pattern_arguments (takes E i) [] S ≡ true)) ⊎ ((E i ≡ false) × (spine_has_patterns E S ≡ true)) → term_has_patterns E' (root (variable (ρ i)) (rename_spine ρ S)) ≡ true
at_variable E E' ρ r i S h (inl (t, e)) = chosen (E' (ρ i)) (pattern_arguments (takes E' (ρ i)) [] (rename_spine ρ S)) (spine_has_patterns E' (rename_spine ρ S)) (r.kind i ∙ t) (taken_renamed E E' ρ r i t S e)
at_variable E E' ρ r i S h (inr (f, e)) = passed_over (E' (ρ i)) (pattern_arguments (takes E' (ρ i)) [] (rename_spine ρ S)) (spine_has_patterns E' (rename_spine ρ S)) (r.kind i ∙ f) (h e)

mutual
  pub term_renames : (E E' : ℕ → Bool) (ρ : ℕ → ℕ) → Renames E E' ρ → (M : Term) → term_has_patterns E M ≡ true → term_has_patterns E' (rename ρ M) ≡ true
  term_renames E E' ρ r (lambda M) e = term_renames (hide E) (hide E') (lift_renaming ρ) (renames_hide E E' ρ r) M e
  term_renames E E' ρ r (root (constant c) S) e = spine_renames E E' ρ r S e
  term_renames E E' ρ r (root (metavariable m) S) e = passes_test (universal E') [] (rename_spine ρ S) (passes_renamed (universal E) (universal E') ρ [] [] S (λ y k. not_false (E' (ρ y)) (r.kind y ∙ not_true (E y) k)) (λ x y k l q. r.apart x y (not_true (E x) k) (not_true (E y) l) q) (λ y k f. refl) (passes_from (universal E) [] S e))
  term_renames E E' ρ r (root (variable i) S) e = at_variable E E' ρ r i S (spine_renames E E' ρ r S) (choice (E i) (pattern_arguments (takes E i) [] S) (spine_has_patterns E S) e)

  pub spine_renames : (E E' : ℕ → Bool) (ρ : ℕ → ℕ) → Renames E E' ρ → (S : Spine) → spine_has_patterns E S ≡ true → spine_has_patterns E' (rename_spine ρ S) ≡ true
  spine_renames E E' ρ r nil e = refl
  spine_renames E E' ρ r (app M S) e = both_of (term_has_patterns E' (rename ρ M)) (spine_has_patterns E' (rename_spine ρ S)) (term_renames E E' ρ r M (both_l (term_has_patterns E M) (spine_has_patterns E S) e)) (spine_renames E E' ρ r S (both_r (term_has_patterns E M) (spine_has_patterns E S) e))

mutual
  pub item_renames : (E E' : ℕ → Bool) (ρ : ℕ → ℕ) → Renames E E' ρ → (A : LfType) → item_has_patterns E A ≡ true → item_has_patterns E' (rename_type ρ A) ≡ true
  item_renames E E' ρ r (pi A B) e = both_of (head_has_patterns E' (rename_type ρ A)) (item_has_patterns (hide E') (rename_type (lift_renaming ρ) B)) (head_renames E E' ρ r A (both_l (head_has_patterns E A) (item_has_patterns (hide E) B) e)) (item_renames (hide E) (hide E') (lift_renaming ρ) (renames_hide E E' ρ r) B (both_r (head_has_patterns E A) (item_has_patterns (hide E) B) e))
  item_renames E E' ρ r (atom a S) e = spine_renames E E' ρ r S e

  pub head_renames : (E E' : ℕ → Bool) (ρ : ℕ → ℕ) → Renames E E' ρ → (A : LfType) → head_has_patterns E A ≡ true → head_has_patterns E' (rename_type ρ A) ≡ true
  head_renames E E' ρ r (pi A B) e = both_of (item_has_patterns E' (rename_type ρ A)) (head_has_patterns (under E') (rename_type (lift_renaming ρ) B)) (item_renames E E' ρ r A (both_l (item_has_patterns E A) (head_has_patterns (under E) B) e)) (head_renames (under E) (under E') (lift_renaming ρ) (renames_under E E' ρ r) B (both_r (item_has_patterns E A) (head_has_patterns (under E) B) e))
  head_renames E E' ρ r (atom a S) e = spine_renames E E' ρ r S e

-- A renaming that takes other variables to other ones, existential ones to such, and what is newer only to what is.
pub record Returns (E E' : ℕ → Bool) (ρ : ℕ → ℕ) : Type 0 where
  pub kind : (i : ℕ) → E' (ρ i) ≡ E i
  pub distinct : Injective ρ
  pub order : (i j : ℕ) → E i ≡ true → E j ≡ false → newer (ρ j) (ρ i) ≡ true → newer j i ≡ true

pub returns_hide : (E E' : ℕ → Bool) (ρ : ℕ → ℕ) → Returns E E' ρ → Returns (hide E) (hide E') (lift_renaming ρ)
returns_hide E E' ρ r = record { kind = kind; distinct = up_injective ρ r.distinct; order = order }
  where
    kind : (i : ℕ) → hide E' (lift_renaming ρ i) ≡ hide E i
    kind zero = refl
    kind (suc i) = r.kind i

    order : (i j : ℕ) → hide E i ≡ true → hide E j ≡ false → newer (lift_renaming ρ j) (lift_renaming ρ i) ≡ true → newer j i ≡ true
    order zero j e f n = absurd cc
    order (suc i) zero e f n = refl
    order (suc i) (suc j) e f n = r.order i j e f n

pub returns_under : (E E' : ℕ → Bool) (ρ : ℕ → ℕ) → Returns E E' ρ → Returns (under E) (under E') (lift_renaming ρ)
returns_under E E' ρ r = record { kind = kind; distinct = up_injective ρ r.distinct; order = order }
  where
    kind : (i : ℕ) → under E' (lift_renaming ρ i) ≡ under E i
    kind zero = refl
    kind (suc i) = r.kind i

    order : (i j : ℕ) → under E i ≡ true → under E j ≡ false → newer (lift_renaming ρ j) (lift_renaming ρ i) ≡ true → newer j i ≡ true
    order zero zero e f n = absurd cc
    order zero (suc j) e f n = absurd cc
    order (suc i) zero e f n = absurd cc
    order (suc i) (suc j) e f n = r.order i j e f n

variable_returns : (E E' : ℕ → Bool) (ρ : ℕ → ℕ) → Returns E E' ρ → (i : ℕ) (S : Spine) → (spine_has_patterns E' (rename_spine ρ S) ≡ true → spine_has_patterns E S ≡ true) → ((E' (ρ i) ≡ true) × (pattern_arguments (takes E' (ρ i)) [] (rename_spine ρ S) ≡ true)) ⊎ ((E' (ρ i) ≡ false) × (spine_has_patterns E' (rename_spine ρ S) ≡ true)) → term_has_patterns E (root (variable i) S) ≡ true
variable_returns E E' ρ r i S h (inl (t, e)) =
    let t' : E i ≡ true = sym (r.kind i) ∙ t in
    chosen (E i) (pattern_arguments (takes E i) [] S) (spine_has_patterns E S) t' (passes_test (takes E i) [] S (passes_back (takes E i) (takes E' (ρ i)) ρ r.distinct [] [] S (λ y k. let f : E y ≡ false = sym (r.kind y) ∙ takes_universal E' (ρ i) (ρ y) k in may_take E i y f (r.order i y t' f (takes_newer E' (ρ i) (ρ y) k))) (λ y f. refl) (passes_from (takes E' (ρ i)) [] (rename_spine ρ S) e)))
variable_returns E E' ρ r i S h (inr (f, e)) = passed_over (E i) (pattern_arguments (takes E i) [] S) (spine_has_patterns E S) (sym (r.kind i) ∙ f) (h e)

mutual
  pub term_returns : (E E' : ℕ → Bool) (ρ : ℕ → ℕ) → Returns E E' ρ → (M : Term) → term_has_patterns E' (rename ρ M) ≡ true → term_has_patterns E M ≡ true
  term_returns E E' ρ r (lambda M) e = term_returns (hide E) (hide E') (lift_renaming ρ) (returns_hide E E' ρ r) M e
  term_returns E E' ρ r (root (constant c) S) e = spine_returns E E' ρ r S e
  term_returns E E' ρ r (root (metavariable m) S) e = passes_test (universal E) [] S (passes_back (universal E) (universal E') ρ r.distinct [] [] S (λ y k. not_false (E y) (sym (r.kind y) ∙ not_true (E' (ρ y)) k)) (λ y f. refl) (passes_from (universal E') [] (rename_spine ρ S) e))
  term_returns E E' ρ r (root (variable i) S) e = variable_returns E E' ρ r i S (spine_returns E E' ρ r S) (choice (E' (ρ i)) (pattern_arguments (takes E' (ρ i)) [] (rename_spine ρ S)) (spine_has_patterns E' (rename_spine ρ S)) e)

  pub spine_returns : (E E' : ℕ → Bool) (ρ : ℕ → ℕ) → Returns E E' ρ → (S : Spine) → spine_has_patterns E' (rename_spine ρ S) ≡ true → spine_has_patterns E S ≡ true
  spine_returns E E' ρ r nil e = refl
  spine_returns E E' ρ r (app M S) e = both_of (term_has_patterns E M) (spine_has_patterns E S) (term_returns E E' ρ r M (both_l (term_has_patterns E' (rename ρ M)) (spine_has_patterns E' (rename_spine ρ S)) e)) (spine_returns E E' ρ r S (both_r (term_has_patterns E' (rename ρ M)) (spine_has_patterns E' (rename_spine ρ S)) e))

mutual
  pub item_returns : (E E' : ℕ → Bool) (ρ : ℕ → ℕ) → Returns E E' ρ → (A : LfType) → item_has_patterns E' (rename_type ρ A) ≡ true → item_has_patterns E A ≡ true
  item_returns E E' ρ r (pi A B) e = both_of (head_has_patterns E A) (item_has_patterns (hide E) B) (head_returns E E' ρ r A (both_l (head_has_patterns E' (rename_type ρ A)) (item_has_patterns (hide E') (rename_type (lift_renaming ρ) B)) e)) (item_returns (hide E) (hide E') (lift_renaming ρ) (returns_hide E E' ρ r) B (both_r (head_has_patterns E' (rename_type ρ A)) (item_has_patterns (hide E') (rename_type (lift_renaming ρ) B)) e))
  item_returns E E' ρ r (atom a S) e = spine_returns E E' ρ r S e

  pub head_returns : (E E' : ℕ → Bool) (ρ : ℕ → ℕ) → Returns E E' ρ → (A : LfType) → head_has_patterns E' (rename_type ρ A) ≡ true → head_has_patterns E A ≡ true
  head_returns E E' ρ r (pi A B) e = both_of (item_has_patterns E A) (head_has_patterns (under E) B) (item_returns E E' ρ r A (both_l (item_has_patterns E' (rename_type ρ A)) (head_has_patterns (under E') (rename_type (lift_renaming ρ) B)) e)) (head_returns (under E) (under E') (lift_renaming ρ) (returns_under E E' ρ r) B (both_r (item_has_patterns E' (rename_type ρ A)) (head_has_patterns (under E') (rename_type (lift_renaming ρ) B)) e))
  head_returns E E' ρ r (atom a S) e = spine_returns E E' ρ r S e
