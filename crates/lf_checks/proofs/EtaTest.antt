-- The test for an eta-long variable finds it.
use Rattle.lf_checks.specs.Strict.{eta_at, new_arguments}
use Rattle.lf_checks.specs.Tests.{both}
use Rattle.std.proofs.Common.{◌≡◌, ℕ, zero, suc, List, [], ◌∷◌, refl, sym, ap, ap₂, ◌∙◌, arith}
use Rattle.std.specs.Prelude.{Bool, true, false}
use Rattle.lf.specs.Syntax.{constant, variable, metavariable, Term, Spine, lambda, root, nil, app, Skeleton, base, arrow, rename_spine}
use Rattle.lf.specs.Eta.{add_last, eta_expand, eta_long}
use Rattle.lf.specs.Variables.{same_number}
use Rattle.lf.proofs.Eta.{rename_eta_expand}

-- the newest variables, eta-long, the oldest of them first
vars_spine : List Skeleton → Spine
vars_spine [] = nil
vars_spine (a ∷ ks) = add_last (rename_spine suc (vars_spine ks)) (eta_long a (variable zero))

at_end : List Skeleton → Skeleton → List Skeleton
at_end [] a = a ∷ []
at_end (c ∷ ks) a = c ∷ at_end ks a

size_of : List Skeleton → ℕ
size_of [] = zero
size_of (a ∷ ks) = suc (size_of ks)

size_end : (ks : List Skeleton) (a : Skeleton) → size_of (at_end ks a) ≡ suc (size_of ks)
unfolding size_of at_end
size_end [] a = refl
size_end (c ∷ ks) a = ap suc (size_end ks a)

spine_end : (ks : List Skeleton) (a : Skeleton) → vars_spine (at_end ks a) ≡ app (eta_long a (variable (size_of ks))) (vars_spine ks)
unfolding vars_spine at_end size_of
spine_end [] a = refl
spine_end (c ∷ ks) a = ap (λ T. add_last (rename_spine suc T) (eta_long c (variable zero))) (spine_end ks a) ∙ ap (λ N. app N (add_last (rename_spine suc (vars_spine ks)) (eta_long c (variable zero)))) (rename_eta_expand suc a (variable (size_of ks)) nil)

number_equal : (i j : ℕ) → same_number i j ≡ true → i ≡ j
number_equal zero zero e = refl
number_equal zero (suc j) e = absurd cc
number_equal (suc i) zero e = absurd cc
number_equal (suc i) (suc j) e = ap suc (number_equal i j e)

pub both_l : (a b : Bool) → both a b ≡ true → a ≡ true
both_l true b e = refl
both_l false b e = absurd cc

pub both_r : (a b : Bool) → both a b ≡ true → b ≡ true
both_r true b e = e
both_r false b e = absurd cc

-- The test: a term that passes is eta-long
abbrev Found : ℕ → ℕ → Term → Type 0
Found n y M = (ks : List Skeleton) × (b : Skeleton) × (size_of ks ≡ n) × (M ≡ eta_expand b (variable y) (vars_spine ks))

abbrev FoundArgs : ℕ → Spine → Type 0
FoundArgs n S = (ks : List Skeleton) × (size_of ks ≡ n) × (S ≡ vars_spine ks)

lam_found : (n y : ℕ) (M : Term) → Found (suc n) (suc y) M → Found n y (lambda M)
unfolding vars_spine size_of
lam_found n y M (k ∷ ks, b, l, q) = (ks, arrow k b, suc_inj l, ap lambda q)
  where
    suc_inj : {i j : ℕ} → suc i ≡ suc j → i ≡ j
    suc_inj e = omega arith
lam_found n y M ([], b, l, q) = absurd cc

head_found : (y : ℕ) (M : Term) → Found zero y M → (b : Skeleton) × (M ≡ eta_long b (variable y))
unfolding vars_spine size_of
head_found y M ([], b, l, q) = (b, q)
head_found y M (k ∷ ks, b, l, q) = absurd cc

app_found : (n : ℕ) (M : Term) (S : Spine) → Found zero n M → FoundArgs n S → FoundArgs (suc n) (app M S)
app_found n M S f (ks, l, q) =
    let (b, e) = head_found n M f in
    (at_end ks b, size_end ks b ∙ ap suc l, ap₂ app e q ∙ ap (λ k. app (eta_long b (variable k)) (vars_spine ks)) (sym l) ∙ sym (spine_end ks b))

none_found : FoundArgs zero nil
unfolding vars_spine size_of
none_found = ([], refl, refl)

mutual
  eta_found : (n y : ℕ) (M : Term) → eta_at n y M ≡ true → Found n y M
  eta_found n y (lambda M) e = lam_found n y M (eta_found (suc n) (suc y) M e)
  eta_found n y (root (constant c) S) e = absurd cc
  eta_found n y (root (metavariable c) S) e = absurd cc
  eta_found n y (root (variable j) S) e =
      let (ks, l, q) = arguments_found n S (both_r (same_number j y) (new_arguments n S) e) in
      (ks, base 0, l, ap₂ (λ k T. root (variable k) T) (number_equal j y (both_l (same_number j y) (new_arguments n S) e)) q)

  arguments_found : (n : ℕ) (S : Spine) → new_arguments n S ≡ true → FoundArgs n S
  arguments_found zero nil e = none_found
  arguments_found zero (app M S) e = absurd cc
  arguments_found (suc n) nil e = absurd cc
  arguments_found (suc n) (app M S) e = app_found n M S (eta_found zero n M (both_l (eta_at zero n M) (new_arguments n S) e)) (arguments_found n S (both_r (eta_at zero n M) (new_arguments n S) e))

pub is_eta : (y : ℕ) (M : Term) → eta_at zero y M ≡ true → (b : Skeleton) × (M ≡ eta_long b (variable y))
is_eta y M e = head_found y M (eta_found zero y M e)
