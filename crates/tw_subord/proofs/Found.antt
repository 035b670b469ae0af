-- What a search in a row tells.
use Rattle.std.proofs.Common.{◌≡◌, ◌≤◌, ◌<◌, ◌∙◌, ℕ, List, length, get_or, Bool, true, false, eqb, Result, Ok, Err, Contains, ◌⊎◌, inl, inr, refl, sym, ap, subst, arith}
use Rattle.std.specs.List.Sorted.{IsBinarySearchResult, IsStrictlyIncreasing}
use Rattle.std.specs.Ordering.{nat_cmp}
use Rattle.std.specs.Result.{is_ok}
use Rattle.std.proofs.lemmas.Bool.Decides.{eqb_tells}
use Rattle.std.proofs.lemmas.List.{get_or_default}
use Rattle.std.proofs.lemmas.List.Sorted.{searched}
use Rattle.std.proofs.lemmas.Map.Keys.{below_from_sorted, sorted_from_strictly_increasing}
use Rattle.lf.specs.Variables.{same_number}
use Rattle.lf.proofs.Checker.{number_is}
use Rattle.lf_checks.specs.Tests.{either, is_in}
use Rattle.tw_subord.specs.Rows.{row, is_below}
use Rattle.tw_subord.proofs.Rows.{same_itself}
use Rattle.tw_subord.proofs.Direct.{either_left, either_right, is_in_row, row_has}

same_or_not : (a b : ℕ) → ((eqb a b ≡ true) × (a ≡ b)) ⊎ ((eqb a b ≡ false) × (a ≡ b → ⊥))
same_or_not a b = eqb_tells a b

pub below_same : (rows : List (List ℕ)) (a b : ℕ) → eqb a b ≡ true → is_below rows a b ≡ true
below_same rows a b h = go (same_or_not a b)
  where
    go : ((eqb a b ≡ true) × (a ≡ b)) ⊎ ((eqb a b ≡ false) × (a ≡ b → ⊥)) → is_below rows a b ≡ true
    go (inl (t, e)) = either_left (same_number a b) (is_in a (row rows b)) (subst (λ k. same_number a k ≡ true) e (same_itself a))
    go (inr (t, n)) = absurd cc

not_true : (t : Bool) → (t ≡ true → ⊥) → false ≡ t
not_true true h = absurd (h refl)
not_true false h = refl

rises : (xs : List ℕ) → IsStrictlyIncreasing xs → (i j : ℕ) → i ≤ j → j < length xs → get_or xs i 0 ≤ get_or xs j 0
rises xs r i j l n = go (apart l)
  where
    apart : i ≤ j → (i < j) ⊎ (i ≡ j)
    apart m = grind (arith, m)

    go : (i < j) ⊎ (i ≡ j) → get_or xs i 0 ≤ get_or xs j 0
    go (inl s) = let k = below_from_sorted xs i j 0 (sorted_from_strictly_increasing xs r) s n in omega (arith, k)
    go (inr e) = let k = ap (λ m. get_or xs m 0) e in omega (arith, k)

pub below_found : (rows : List (List ℕ)) (a b : ℕ) (r : Result ℕ ℕ) → eqb a b ≡ false → IsBinarySearchResult (λ y. nat_cmp y a) (row rows b) r → IsStrictlyIncreasing (row rows b) → is_ok r ≡ is_below rows a b
below_found rows a b (Ok i) h s u =
    let f = searched (row rows b) a (Ok i) s (rises (row rows b) u) in
    sym (either_right (same_number a b) (is_in a (row rows b)) (row_has a (row rows b) (i, f.0, get_or_default (row rows b) i a 0 f.0 ∙ f.1)))
below_found rows a b (Err i) h s u = not_true (is_below rows a b) (λ t. no (same_number a b) refl t)
  where
    f : (i ≤ length (row rows b)) × ((k : ℕ) → k < i → get_or (row rows b) k 0 < a) × ((k : ℕ) → i ≤ k → k < length (row rows b) → a < get_or (row rows b) k 0)
    f = searched (row rows b) a (Err i) s (rises (row rows b) u)

    apart : (k : ℕ) → (k < i) ⊎ (i ≤ k)
    apart k = grind arith

    nowhere : Contains (row rows b) a → ⊥
    nowhere (k, n, e) = elim (apart k) [
      | inl l ↦ let p = f.1 k l in let q = sym (get_or_default (row rows b) k a 0 n) ∙ e in omega (arith, p, q)
      | inr l ↦ let p = f.2 k l n in let q = sym (get_or_default (row rows b) k a 0 n) ∙ e in omega (arith, p, q)
    ]

    no : (t : Bool) → same_number a b ≡ t → either t (is_in a (row rows b)) ≡ true → ⊥
    no true e k = elim (same_or_not a b) [ inl p ↦ absurd cc | inr p ↦ p.1 (number_is a b e) ]
    no false e k = nowhere (is_in_row a (row rows b) k)
