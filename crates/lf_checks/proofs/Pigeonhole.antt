-- Distinct members of a list are no more than the list is long.
use Rattle.std.proofs.Common.{◌≡◌, ℕ, suc, List, [], ◌∷◌, ◌≤◌, length, refl, sym, ap, ◌∙◌, arith, inl, inr}
use Rattle.lf.specs.Subordination.{Member}

abbrev pub Distinct : List ℕ → Type 0
Distinct [] = Unit {0}
Distinct (x ∷ xs) = (Member x xs → ⊥) × Distinct xs

without : (x : ℕ) (g : List ℕ) → Member x g → List ℕ
without x [] m = absurd m
without x (y ∷ ys) (inl e) = ys
without x (y ∷ ys) (inr m) = y ∷ without x ys m

length_without : (x : ℕ) (g : List ℕ) (m : Member x g) → suc (length (without x g m)) ≡ length g
unfolding without
length_without x [] m = absurd m
length_without x (y ∷ ys) (inl e) = refl
length_without x (y ∷ ys) (inr m) = ap suc (length_without x ys m)

member_without : (x y : ℕ) (g : List ℕ) (m : Member x g) → (y ≡ x → ⊥) → Member y g → Member y (without x g m)
unfolding without
member_without x y [] m n k = absurd m
member_without x y (z ∷ zs) (inl e) n (inl q) = absurd (n (q ∙ sym e))
member_without x y (z ∷ zs) (inl e) n (inr k) = k
member_without x y (z ∷ zs) (inr m) n (inl q) = inl q
member_without x y (z ∷ zs) (inr m) n (inr k) = inr (member_without x y zs m n k)

member_same : (x y : ℕ) (xs : List ℕ) → y ≡ x → Member y xs → Member x xs
member_same x y (z ∷ zs) e (inl q) = inl (sym e ∙ q)
member_same x y (z ∷ zs) e (inr k) = inr (member_same x y zs e k)
member_same x y [] e k = absurd k

pub no_more_than : (xs g : List ℕ) → Distinct xs → ((x : ℕ) → Member x xs → Member x g) → length xs ≤ length g
no_more_than [] g d h = omega arith
no_more_than (x ∷ xs) g (n, d) h =
    let m : Member x g = h x (inl refl) in
    let q : suc (length (without x g m)) ≡ length g = length_without x g m in
    let r : length xs ≤ length (without x g m) = no_more_than xs (without x g m) d (λ y k. member_without x y g m (λ e. n (member_same x y xs e k)) (h y (inr k))) in omega arith
