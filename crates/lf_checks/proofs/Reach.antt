-- The search that a check of orders makes: a rank exists where it finds no cycle of equal calls, and none where it does.
use Rattle.lf_checks.specs.Descent.{inside}
use Rattle.lf_checks.specs.Tests.{both, either}
use Rattle.std.proofs.Common.{◌≡◌, ℕ, zero, suc, List, [], ◌∷◌, ◌<◌, ◌≤◌, refl, ap, subst, arith, inl, inr}
use Rattle.std.specs.Prelude.{Bool, true, false, ◌⊎◌}
use Rattle.lf.specs.Variables.{same_number}
use Rattle.lf.specs.Subordination.{Member}
use Rattle.lf_checks.proofs.EtaTest.{both_l, both_r}
use Rattle.lf_checks.proofs.StrictTypes.{either_cases}
use Rattle.lf_checks.proofs.Ranks.{reached, rank_falls}

-- calls lead from a to b, by way of the families `ns`
abbrev pub reach : (ℕ → ℕ → Bool) → List ℕ → ℕ → ℕ → Bool
reach e [] a b = either (same_number a b) (e a b)
reach e (n ∷ ns) a b = either (reach e ns a b) (both (reach e ns a n) (reach e ns n b))

-- how many families of the group calls lead to
abbrev pub rank_in : (ℕ → ℕ → Bool) → List ℕ → ℕ → ℕ
rank_in e group a = reached (reach e group a) group

either_first : (a b : Bool) → a ≡ true → either a b ≡ true
either_first true b h = refl
either_first false b h = absurd cc

either_second : (a b : Bool) → b ≡ true → either a b ≡ true
either_second true b h = refl
either_second false b h = h

both_true : (a b : Bool) → a ≡ true → b ≡ true → both a b ≡ true
both_true true b h k = k
both_true false b h k = absurd cc

same_self : (i : ℕ) → same_number i i ≡ true
same_self zero = refl
same_self (suc i) = same_self i

pub number_equal : (i j : ℕ) → same_number i j ≡ true → i ≡ j
number_equal zero zero e = refl
number_equal zero (suc j) e = absurd cc
number_equal (suc i) zero e = absurd cc
number_equal (suc i) (suc j) e = ap suc (number_equal i j e)

module _ (e : ℕ → ℕ → Bool) where
  pub self : (ns : List ℕ) (a : ℕ) → reach e ns a a ≡ true
  self [] a = either_first (same_number a a) (e a a) (same_self a)
  self (n ∷ ns) a = either_first (reach e ns a a) (both (reach e ns a n) (reach e ns n a)) (self ns a)

  pub call : (ns : List ℕ) (a b : ℕ) → e a b ≡ true → reach e ns a b ≡ true
  call [] a b h = either_second (same_number a b) (e a b) h
  call (n ∷ ns) a b h = either_first (reach e ns a b) (both (reach e ns a n) (reach e ns n b)) (call ns a b h)

  way : (ns : List ℕ) (n a b : ℕ) → reach e ns a n ≡ true → reach e ns n b ≡ true → reach e (n ∷ ns) a b ≡ true
  way ns n a b h k = either_second (reach e ns a b) (both (reach e ns a n) (reach e ns n b)) (both_true (reach e ns a n) (reach e ns n b) h k)

  -- to and from n itself no way by n is needed
  to_end : (ns : List ℕ) (n a : ℕ) → reach e (n ∷ ns) a n ≡ true → reach e ns a n ≡ true
  to_end ns n a h = by (either_cases (reach e ns a n) (both (reach e ns a n) (reach e ns n n)) h)
    where
      by : (reach e ns a n ≡ true) ⊎ (both (reach e ns a n) (reach e ns n n) ≡ true) → reach e ns a n ≡ true
      by (inl k) = k
      by (inr k) = both_l (reach e ns a n) (reach e ns n n) k

  from_start : (ns : List ℕ) (n c : ℕ) → reach e (n ∷ ns) n c ≡ true → reach e ns n c ≡ true
  from_start ns n c h = by (either_cases (reach e ns n c) (both (reach e ns n n) (reach e ns n c)) h)
    where
      by : (reach e ns n c ≡ true) ⊎ (both (reach e ns n n) (reach e ns n c) ≡ true) → reach e ns n c ≡ true
      by (inl k) = k
      by (inr k) = both_r (reach e ns n n) (reach e ns n c) k

  pub through : (ns : List ℕ) (a b c : ℕ) → Member b ns → reach e ns a b ≡ true → reach e ns b c ≡ true → reach e ns a c ≡ true
  through [] a b c m h k = absurd m
  through (n ∷ ns) a b c (inl q) h k = way ns n a c (to_end ns n a (subst (λ x. reach e (n ∷ ns) a x ≡ true) q h)) (from_start ns n c (subst (λ x. reach e (n ∷ ns) x c ≡ true) q k))
  through (n ∷ ns) a b c (inr m) h k = by (either_cases (reach e ns a b) (both (reach e ns a n) (reach e ns n b)) h) (either_cases (reach e ns b c) (both (reach e ns b n) (reach e ns n c)) k) (through ns a b c m) (through ns a b n m) (through ns n b c m)
    where
      by : (reach e ns a b ≡ true) ⊎ (both (reach e ns a n) (reach e ns n b) ≡ true) → (reach e ns b c ≡ true) ⊎ (both (reach e ns b n) (reach e ns n c) ≡ true) → (reach e ns a b ≡ true → reach e ns b c ≡ true → reach e ns a c ≡ true) → (reach e ns a b ≡ true → reach e ns b n ≡ true → reach e ns a n ≡ true) → (reach e ns n b ≡ true → reach e ns b c ≡ true → reach e ns n c ≡ true) → reach e (n ∷ ns) a c ≡ true
      by (inl x) (inl y) f g l = either_first (reach e ns a c) (both (reach e ns a n) (reach e ns n c)) (f x y)
      by (inl x) (inr y) f g l = way ns n a c (g x (both_l (reach e ns b n) (reach e ns n c) y)) (both_r (reach e ns b n) (reach e ns n c) y)
      by (inr x) (inl y) f g l = way ns n a c (both_l (reach e ns a n) (reach e ns n b) x) (l (both_r (reach e ns a n) (reach e ns n b) x) y)
      by (inr x) (inr y) f g l = way ns n a c (both_l (reach e ns a n) (reach e ns n b) x) (both_r (reach e ns b n) (reach e ns n c) y)

  -- The lemma: where no call leads back, the rank falls at each call
  pub rank_of : (group : List ℕ) → ((a b : ℕ) → e a b ≡ true → Member a group × Member b group) → ((a b : ℕ) → e a b ≡ true → reach e group b a ≡ false) → (a b : ℕ) → e a b ≡ true → rank_in e group b < rank_in e group a
  rank_of group inside acyclic a b h = rank_falls (λ x y. e x y ≡ true) (reach e group) group (self group) (λ x y g k r. through group x y g (inside x y k).1 (call group x y k) r) acyclic a b h (inside a b h).0

  falls_along : (rank : ℕ → ℕ) → ((a b : ℕ) → e a b ≡ true → rank b < rank a) → (ns : List ℕ) (a b : ℕ) → reach e ns a b ≡ true → rank b ≤ rank a
  falls_along rank f [] a b h = by (either_cases (same_number a b) (e a b) h)
    where
      by : (same_number a b ≡ true) ⊎ (e a b ≡ true) → rank b ≤ rank a
      by (inl q) = let p : rank a ≡ rank b = ap rank (number_equal a b q) in omega arith
      by (inr k) = let p : rank b < rank a = f a b k in omega arith
  falls_along rank f (n ∷ ns) a b h = by (either_cases (reach e ns a b) (both (reach e ns a n) (reach e ns n b)) h) (falls_along rank f ns a b) (falls_along rank f ns a n) (falls_along rank f ns n b)
    where
      by : (reach e ns a b ≡ true) ⊎ (both (reach e ns a n) (reach e ns n b) ≡ true) → (reach e ns a b ≡ true → rank b ≤ rank a) → (reach e ns a n ≡ true → rank n ≤ rank a) → (reach e ns n b ≡ true → rank b ≤ rank n) → rank b ≤ rank a
      by (inl k) x y z = x k
      by (inr k) x y z = let p : rank n ≤ rank a = y (both_l (reach e ns a n) (reach e ns n b) k) in let q : rank b ≤ rank n = z (both_r (reach e ns a n) (reach e ns n b) k) in omega arith

  -- and where one leads back, no rank falls at each call
  pub no_rank : (group : List ℕ) (a b : ℕ) → e a b ≡ true → reach e group b a ≡ true → (rank : ℕ → ℕ) → ((x y : ℕ) → e x y ≡ true → rank y < rank x) → ⊥
  no_rank group a b h k rank f = let p : rank b < rank a = f a b h in let q : rank a ≤ rank b = falls_along rank f group b a k in absurd (omega arith)
