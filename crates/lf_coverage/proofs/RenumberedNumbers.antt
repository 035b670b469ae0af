-- Renumberings: one that exchanges two numbers after another one, one that gives a free number, and those of finitely many.
use Rattle.std.proofs.Common.{◌≡◌, ℕ, zero, suc, ◌+◌, ◌<◌, ◌≤◌, ◌⊎◌, inl, inr, refl, sym, ap, ◌∙◌, arith}
use Rattle.std.specs.Prelude.{Option, Some, None}
use Rattle.std.specs.Option.{option_map}
use Rattle.lf.specs.Syntax.{LfType}
use Rattle.lf_unification.proofs.Offer.{decide}
use Rattle.lf_coverage.specs.Renumbering.{AgreeOn, Renumbering, renumbered_type, renumbered_types}
use Rattle.lf_coverage.specs.RenumberingLaws.{NumbersExtend}
use Rattle.lf_coverage.proofs.RenumberedStores.{injective}

-- i and j exchanged
abbrev pub choose : {P Q : Type 0} → ℕ → ℕ → ℕ → P ⊎ (P → ⊥) → Q ⊎ (Q → ⊥) → ℕ
choose i j k (inl p) y = j
choose i j k (inr p) (inl q) = i
choose i j k (inr p) (inr q) = k

abbrev pub exchanged : ℕ → ℕ → ℕ → ℕ
exchanged i j k = choose i j k (decide k i) (decide k j)

module _ (i j : ℕ) where
  at_first : (k : ℕ) → k ≡ i → exchanged i j k ≡ j
  at_first k e = go (decide k i) (decide k j)
    where
      go : (x : (k ≡ i) ⊎ (k ≡ i → ⊥)) (y : (k ≡ j) ⊎ (k ≡ j → ⊥)) → choose i j k x y ≡ j
      go (inl p) y = refl
      go (inr p) y = absurd (p e)

  at_second : (k : ℕ) → k ≡ j → exchanged i j k ≡ i
  at_second k e = go (decide k i) (decide k j)
    where
      go : (x : (k ≡ i) ⊎ (k ≡ i → ⊥)) (y : (k ≡ j) ⊎ (k ≡ j → ⊥)) → choose i j k x y ≡ i
      go (inl p) y = sym e ∙ p
      go (inr p) (inl q) = refl
      go (inr p) (inr q) = absurd (q e)

  elsewhere : (k : ℕ) → (k ≡ i → ⊥) → (k ≡ j → ⊥) → exchanged i j k ≡ k
  elsewhere k n o = go (decide k i) (decide k j)
    where
      go : (x : (k ≡ i) ⊎ (k ≡ i → ⊥)) (y : (k ≡ j) ⊎ (k ≡ j → ⊥)) → choose i j k x y ≡ k
      go (inl p) y = absurd (n p)
      go (inr p) (inl q) = absurd (o q)
      go (inr p) (inr q) = refl

  pub twice : (k : ℕ) → exchanged i j (exchanged i j k) ≡ k
  twice k = go (decide k i) (decide k j)
    where
      go : (k ≡ i) ⊎ (k ≡ i → ⊥) → (k ≡ j) ⊎ (k ≡ j → ⊥) → exchanged i j (exchanged i j k) ≡ k
      go (inl p) y = at_second (exchanged i j k) (at_first k p) ∙ sym p
      go (inr p) (inl q) = at_first (exchanged i j k) (at_second k q) ∙ sym q
      go (inr p) (inr q) = ap (exchanged i j) (elsewhere k p q) ∙ elsewhere k p q

-- the renumbering, but n has the number j
abbrev pub with_number : Renumbering → ℕ → ℕ → Renumbering
with_number π n j = record {
  to = λ m. exchanged (π.to n) j (π.to m);
  back = λ m. π.back (exchanged (π.to n) j m);
  back_to = λ m. ap π.back (twice (π.to n) j (π.to m)) ∙ π.back_to m;
  to_back = λ m. ap (exchanged (π.to n) j) (π.to_back (exchanged (π.to n) j m)) ∙ twice (π.to n) j m;
}

pub number_there : (π : Renumbering) (n j : ℕ) → (with_number π n j).to n ≡ j
number_there π n j = at_first (π.to n) j (π.to n) refl

pub numbers_elsewhere : (π : Renumbering) (n j m : ℕ) → (m ≡ n → ⊥) → (π.to m ≡ j → ⊥) → (with_number π n j).to m ≡ π.to m
numbers_elsewhere π n j m h k = elsewhere (π.to n) j (π.to m) (λ e. h (injective π m n e)) k

-- a number above those of all below n
abbrev pub top : (ℕ → ℕ) → ℕ → ℕ
top g zero = 0
top g (suc n) = suc (top g n + g n)

below_or_at : (m n : ℕ) → m < suc n → (m < n) ⊎ (m ≡ n)
below_or_at m n l = go (decide m n)
  where
    go : (m ≡ n) ⊎ (m ≡ n → ⊥) → (m < n) ⊎ (m ≡ n)
    go (inl e) = inr e
    go (inr h) = inl (omega arith)

below_top : (g : ℕ → ℕ) (n m : ℕ) → m < n → g m < top g n
below_top g zero m l = absurd (omega arith)
below_top g (suc n) m l = go (below_or_at m n l) (below_top g n m)
  where
    go : (m < n) ⊎ (m ≡ n) → (m < n → g m < top g n) → g m < suc (top g n + g n)
    go (inl k) ih = let h : g m < top g n = ih k in omega arith
    go (inr e) ih = let h : g m ≡ g n = ap g e in omega arith

below_or_from : (m n : ℕ) → (m < n) ⊎ (n ≤ m)
below_or_from m zero = inr (omega arith)
below_or_from zero (suc n) = inl (omega arith)
below_or_from (suc m) (suc n) = go (below_or_from m n)
  where
    go : (m < n) ⊎ (n ≤ m) → (suc m < suc n) ⊎ (suc n ≤ suc m)
    go (inl l) = inl (omega arith)
    go (inr l) = inr (omega arith)

-- a number that is free under the renumbering, for one that is free
module _ (π : Renumbering) (Ψ : ℕ → Option LfType) (n : ℕ) (fresh : (m : ℕ) → n ≤ m → Ψ m ≡ None) where
  abbrev pub with_free : Renumbering
  with_free = with_number π n (top π.to n)

  pub declared_below : (m : ℕ) (A : LfType) → Ψ m ≡ Some A → m < n
  declared_below m A e = go (below_or_from m n)
    where
      go : (m < n) ⊎ (n ≤ m) → m < n
      go (inl l) = l
      go (inr l) = let h : Ψ m ≡ None = fresh m l in absurd cc

  stays : (m : ℕ) → m < n → with_free.to m ≡ π.to m
  stays m l = numbers_elsewhere π n (top π.to n) m (λ e. omega arith) (λ e. let h : π.to m < top π.to n = below_top π.to n m l in omega arith)

  pub others_stay : AgreeOn Ψ π with_free
  others_stay m A e = stays m (declared_below m A e)

  pub is_free : (k : ℕ) → with_free.to n ≤ k → renumbered_types with_free Ψ k ≡ None
  is_free k l = go (below_or_from (with_free.back k) n)
    where
      go : (with_free.back k < n) ⊎ (n ≤ with_free.back k) → renumbered_types with_free Ψ k ≡ None
      go (inr h) = ap (option_map (renumbered_type with_free.to)) (fresh (with_free.back k) h)
      go (inl h) =
          let e : with_free.to (with_free.back k) ≡ k = with_free.to_back k in
          let q : with_free.to (with_free.back k) ≡ π.to (with_free.back k) = stays (with_free.back k) h in
          let r : π.to (with_free.back k) < top π.to n = below_top π.to n (with_free.back k) h in
          let t : with_free.to n ≡ top π.to n = number_there π n (top π.to n) in
          absurd (too_far k (with_free.to (with_free.back k)) (π.to (with_free.back k)) (top π.to n) (with_free.to n) e q r t l)
        where
          too_far : (k x y z w : ℕ) → x ≡ k → x ≡ y → y < z → w ≡ z → w ≤ k → ⊥
          too_far k x y z w e q r t l = omega arith

-- different numbers for finitely many
identity : Renumbering
identity = record { to = λ m. m; back = λ m. m; back_to = λ m. refl; to_back = λ m. refl }

pub numbers_extend : NumbersExtend
numbers_extend g zero d = (identity, λ m l. absurd (omega arith))
numbers_extend g (suc n) d = longer (numbers_extend g n (λ i j k l e. d i j (omega arith) (omega arith) e))
  where
    longer : (π : Renumbering) × ((m : ℕ) → m < n → π.to m ≡ g m) → (ρ : Renumbering) × ((m : ℕ) → m < suc n → ρ.to m ≡ g m)
    longer (π, h) = (with_number π n (g n), λ m l. by m (below_or_at m n l))
      where
        by : (m : ℕ) → (m < n) ⊎ (m ≡ n) → (with_number π n (g n)).to m ≡ g m
        by m (inr e) = ap (with_number π n (g n)).to e ∙ number_there π n (g n) ∙ sym (ap g e)
        by m (inl l) = numbers_elsewhere π n (g n) m (λ e. omega arith) (λ e. let q : m ≡ n = d m n (omega arith) (omega arith) (sym (h m l) ∙ e) in omega arith) ∙ h m l
