-- Lists of one length are well-founded in the lexicographic order.
use Rattle.std.proofs.Common.{◌≡◌, ℕ, zero, suc, List, [], ◌∷◌, ◌<◌, length, sym, ap, ◌∙◌, subst, arith, inl, inr}
use Rattle.std.specs.Prelude.{◌⊎◌}

abbrev pub LexLt : List ℕ → List ℕ → Type 0
LexLt [] ys = ⊥
LexLt (x ∷ xs) [] = ⊥
LexLt (x ∷ xs) (y ∷ ys) = ((x < y) × (length xs ≡ length ys)) ⊎ ((x ≡ y) × LexLt xs ys)

pub data Acc : List ℕ → Type 0 where
  acc : {x : List ℕ} → ((y : List ℕ) → LexLt y x → Acc y) → Acc x

LexLt-length : (xs ys : List ℕ) → LexLt xs ys → length xs ≡ length ys
LexLt-length [] ys h = absurd h
LexLt-length (x ∷ xs) [] h = absurd h
LexLt-length (x ∷ xs) (y ∷ ys) (inl (a, e)) = ap suc e
LexLt-length (x ∷ xs) (y ∷ ys) (inr (e, h)) = ap suc (LexLt-length xs ys h)

-- x in front, where smaller ones are done with every tail of this length
below_front : (x n : ℕ) (t : List ℕ) → length t ≡ n → ((y : ℕ) → y < x → (u : List ℕ) → length u ≡ n → Acc (y ∷ u)) → ((u : List ℕ) → LexLt u t → Acc (x ∷ u)) → (y : List ℕ) → LexLt y (x ∷ t) → Acc y
below_front x n t e k r [] l = absurd l
below_front x n t e k r (y ∷ ys) (inl (l, f)) = k y l ys (f ∙ e)
below_front x n t e k r (y ∷ ys) (inr (p, l)) = subst (λ z. Acc (z ∷ ys)) (sym p) (r ys l)

front : (x n : ℕ) → ((y : ℕ) → y < x → (u : List ℕ) → length u ≡ n → Acc (y ∷ u)) → (t : List ℕ) → length t ≡ n → Acc t → Acc (x ∷ t)
front x n k t e (acc h) = acc (below_front x n t e k (λ u l. front x n k u (LexLt-length u t l ∙ e) (h u l)))

fronts : (n : ℕ) → ((t : List ℕ) → length t ≡ n → Acc t) → (b x : ℕ) → x < b → (t : List ℕ) → length t ≡ n → Acc (x ∷ t)
fronts n w zero x l t e = absurd (omega arith)
fronts n w (suc b) x l t e = front x n (λ y m u f. fronts n w b y (omega arith) u f) t e (w t e)

no_length : {n : ℕ} → suc n ≡ zero → ⊥
no_length e = omega arith

pub well_founded : (n : ℕ) (xs : List ℕ) → length xs ≡ n → Acc xs
well_founded zero [] e = acc (λ y l. empty y l)
  where
    empty : (y : List ℕ) → LexLt y [] → Acc y
    empty [] l = absurd l
    empty (x ∷ xs) l = absurd l
well_founded zero (x ∷ xs) e = absurd (no_length e)
well_founded (suc n) [] e = absurd (no_length (sym e))
well_founded (suc n) (x ∷ xs) e = fronts n (well_founded n) (suc x) x (omega arith) xs (suc_inj e)
  where
    suc_inj : {a b : ℕ} → suc a ≡ suc b → a ≡ b
    suc_inj e = omega arith
