-- Rows, family by family.
use Rattle.std.proofs.Common.{◌≡◌, ◌≤◌, ◌<◌, ◌++◌, ◌+◌, ◌∙◌, ℕ, zero, suc, List, [], ◌∷◌, length, Vec, Contains, ◌⊎◌, ◌↔◌, inl, inr, refl, sym, ap, subst, arith}
use Rattle.std.specs.Global.{Global}
use Rattle.std.specs.List.Sorted.{IsStrictlyIncreasing}
use Rattle.std.proofs.lemmas.List.{length-append, length-map}
use Rattle.tw_subord.specs.Leads.{Leads}
use Rattle.tw_subord.specs.Rows.{row, rows_of, AreAscending}

abbrev Lists : Type 0
Lists = List (Vec ℕ Global)

-- the first n rows are made
abbrev pub AreMade : List (List ℕ) → Lists → ℕ → Type 0
AreMade links rows n = (length rows ≡ n) × ((a b : ℕ) → b < n → (Contains (row (rows_of rows) b) a) ↔ Leads links a b) × AreAscending (rows_of rows)

none_rises : IsStrictlyIncreasing []
none_rises k l = absurd (omega (arith, l))

pub no_rows : (links : List (List ℕ)) (rows : Lists) → rows ≡ [] → AreMade links rows 0
no_rows links rows e = (ap length e, λ a b l. absurd (omega (arith, l)), λ b. subst (λ (vs : Lists). IsStrictlyIncreasing (row (rows_of vs) b)) (sym e) (no_row b))
  where
    no_row : (b : ℕ) → IsStrictlyIncreasing (row (rows_of []) b)
    no_row b = none_rises

row_before : (rows : Lists) (v : Vec ℕ Global) (b : ℕ) → b < length rows → row (rows_of (rows ++ v ∷ [])) b ≡ row (rows_of rows) b
row_before [] v b l = absurd (omega (arith, l))
row_before (u ∷ rows) v zero l = refl
row_before (u ∷ rows) v (suc b) l = row_before rows v b (omega (arith, l))

row_last : (rows : Lists) (v : Vec ℕ Global) (b : ℕ) → b ≡ length rows → row (rows_of (rows ++ v ∷ [])) b ≡ v.items
row_last [] v b e = ap (λ k. row (rows_of (v ∷ [])) k) e
row_last (u ∷ rows) v zero e = absurd (omega (arith, e))
row_last (u ∷ rows) v (suc b) e = row_last rows v b (omega (arith, e))

pub row_past : (rows : Lists) (b : ℕ) → length rows ≤ b → row (rows_of rows) b ≡ []
row_past [] b l = refl
row_past (u ∷ rows) zero l = absurd (omega (arith, l))
row_past (u ∷ rows) (suc b) l = row_past rows b (omega (arith, l))

three : (b n : ℕ) → (b < n) ⊎ (b ≡ n) ⊎ (n < b)
three b n = grind arith

pub one_row_more : (links : List (List ℕ)) (old new : Lists) (n : ℕ) (v : Vec ℕ Global) → AreMade links old n → new ≡ old ++ v ∷ [] → ((a : ℕ) → Contains v.items a ↔ Leads links a n) → IsStrictlyIncreasing v.items → AreMade links new (n + 1)
one_row_more links old new n v m e h r = (longer, holds, rising)
  where
    longer : length new ≡ n + 1
    longer = ap length e ∙ (length-append old (v ∷ []) ∙ ap (λ k. k + 1) m.0)

    holds : (a b : ℕ) → b < n + 1 → (Contains (row (rows_of new) b) a) ↔ Leads links a b
    holds a b l = go (three b n)
      where
        go : (b < n) ⊎ (b ≡ n) ⊎ (n < b) → (Contains (row (rows_of new) b) a) ↔ Leads links a b
        go (inl s) =
            let q : row (rows_of new) b ≡ row (rows_of old) b = ap (λ vs. row (rows_of vs) b) e ∙ row_before old v b (omega (arith, s, m.0)) in
            (λ i. (m.1 a b s).0 (subst (λ xs. Contains xs a) q i), λ i. subst (λ xs. Contains xs a) (sym q) ((m.1 a b s).1 i))
        go (inr (inl s)) =
            let q : row (rows_of new) b ≡ v.items = ap (λ vs. row (rows_of vs) b) e ∙ row_last old v b (s ∙ sym m.0) in
            (λ i. subst (Leads links a) (sym s) ((h a).0 (subst (λ xs. Contains xs a) q i)), λ i. subst (λ xs. Contains xs a) (sym q) ((h a).1 (subst (Leads links a) s i)))
        go (inr (inr s)) = absurd (omega (arith, s, l))

    rising : AreAscending (rows_of new)
    rising b = go (three b n)
      where
        go : (b < n) ⊎ (b ≡ n) ⊎ (n < b) → IsStrictlyIncreasing (row (rows_of new) b)
        go (inl s) = subst IsStrictlyIncreasing (sym (ap (λ vs. row (rows_of vs) b) e ∙ row_before old v b (omega (arith, s, m.0)))) (m.2 b)
        go (inr (inl s)) = subst IsStrictlyIncreasing (sym (ap (λ vs. row (rows_of vs) b) e ∙ row_last old v b (s ∙ sym m.0))) r
        go (inr (inr s)) = subst IsStrictlyIncreasing (sym (row_past new b (let q = ap length e ∙ (length-append old (v ∷ []) ∙ ap (λ k. k + 1) m.0) in omega (arith, s, q)))) none_rises

pub beyond : (links rows : Lists) → length rows ≡ length links → (b : ℕ) → length (rows_of links) ≤ b → (row (rows_of links) b ≡ []) × (row (rows_of rows) b ≡ [])
beyond links rows e b l = let m = length-map links (λ (v : Vec ℕ Global). v.items) in (row_past links b (omega (arith, l, m)), row_past rows b (omega (arith, l, m, e)))
