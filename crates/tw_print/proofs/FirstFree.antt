-- The first name that isn't taken.
use Rattle.std.proofs.Common.{◌≡◌, ℕ, suc, ◌-◌, ◌<◌, ◌^◌, List, true, false, sym, ap, ◌∙◌, arith}
use Rattle.std.proofs.lemmas.Bool.{cond-true, cond-false}
use Rattle.tw_fixity.specs.Names.{Names as Scope}
use Rattle.tw_print.specs.Names.{Scene, is_taken, candidate, candidates, candidates_is, first_free}

left : (n : ℕ) → n < 2 ^ 64 → candidates - n ≡ suc (candidates - suc n)
left n h = let e = candidates_is in omega (arith, h, e)

module _ (s : Scene) (ns : Scope) (base : List ℕ) where
  pub next_candidate : (n m : ℕ) (name x : List ℕ) → n < 2 ^ 64 → m ≡ suc n → name ≡ candidate base n → is_taken s ns name ≡ true → first_free (candidates - n) s ns base n ≡ x → first_free (candidates - m) s ns base m ≡ x
  next_candidate n m name x h e is y k =
      ap (λ i. first_free (candidates - i) s ns base i) e
      ∙ sym (ap (λ c. first_free c s ns base n) (left n h) ∙ cond-true _ _ _ (ap (is_taken s ns) (sym is) ∙ y)) ∙ k

  pub candidate_free : (n : ℕ) (name x : List ℕ) → n < 2 ^ 64 → name ≡ candidate base n → is_taken s ns name ≡ false → first_free (candidates - n) s ns base n ≡ x → name ≡ x
  candidate_free n name x h is y k = is ∙ sym (ap (λ c. first_free c s ns base n) (left n h) ∙ cond-false _ _ _ (ap (is_taken s ns) (sym is) ∙ y)) ∙ k
