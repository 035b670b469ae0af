-- What is so of each of a list of candidates, however these are gathered.
use Rattle.std.proofs.Common.{◌≡◌, ℕ, List, [], ◌∷◌, inl, inr, refl, sym, subst}
use Rattle.std.specs.Prelude.{Bool, true, false, cond, Option, Some, None}
use Rattle.lf.specs.Subordination.{Member}
use Rattle.lf_checks.specs.Tests.{is_in}
use Rattle.lf_cases.specs.Candidates.{counted, each_once, then}

abbrev pub Each : (ℕ → Type 0) → List ℕ → Type 0
Each P xs = (x : ℕ) → Member x xs → P x

module _ (P : ℕ → Type 0) where
  pub each_none : Each P []
  each_none x m = absurd m

  pub each_then : (xs ys : List ℕ) → Each P xs → Each P ys → Each P (then xs ys)
  each_then [] ys h k x m = k x m
  each_then (z ∷ xs) ys h k x (inl e) = h x (inl e)
  each_then (z ∷ xs) ys h k x (inr m) = each_then xs ys (λ y n. h y (inr n)) k x m

  pub each_chosen : (b : Bool) (xs ys : List ℕ) → (b ≡ true → Each P xs) → (b ≡ false → Each P ys) → Each P (cond b xs ys)
  each_chosen true xs ys h k = h refl
  each_chosen false xs ys h k = k refl

  pub each_counted : (b : Bool) (y : Option ℕ) → (b ≡ true → (x : ℕ) → y ≡ Some x → P x) → Each P (counted b y)
  each_counted true (Some y) h x (inl e) = subst P (sym e) (h refl y refl)
  each_counted true (Some y) h x (inr m) = absurd m
  each_counted true None h x m = absurd m
  each_counted false y h x m = absurd m

  each_front : (y : ℕ) (xs : List ℕ) → P y → Each P xs → Each P (y ∷ xs)
  each_front y xs e h x (inl q) = subst P (sym q) e
  each_front y xs e h x (inr m) = h x m

  pub of_each_once : (seen xs : List ℕ) → Each P xs → Each P (each_once seen xs)
  of_each_once seen [] h = each_none
  of_each_once seen (y ∷ xs) h = each_chosen (is_in y seen) (each_once seen xs) (y ∷ each_once (y ∷ seen) xs) (λ e. of_each_once seen xs (λ x m. h x (inr m))) (λ e. each_front y (each_once (y ∷ seen) xs) (h y (inl refl)) (of_each_once (y ∷ seen) xs (λ z n. h z (inr n))))
