-- Members of lists, one after the other.
use Rattle.std.proofs.Common.{◌≡◌, ℕ, zero, suc, ◌+◌, ◌<◌, ◌≤◌, List, [], ◌∷◌, ◌++◌, Some, length, map, take, get_or, refl, sym, ap, ap₂, ◌∙◌, subst, arith, inl, inr}
use Rattle.std.specs.Prelude.{slice_get, ◌⊎◌}
use Rattle.std.specs.List.{remove}
use Rattle.std.proofs.lemmas.List.{take_all}
use Rattle.lf.specs.Subordination.{Member}

taken_more : {A : Type 0} (xs : List A) (k : ℕ) (x : A) → k < length xs → x ≡ get_or xs k x → take (suc k) xs ≡ take k xs ++ x ∷ []
taken_more [] k x h e = absurd (omega (arith, h))
taken_more (y ∷ xs) zero x h e = ap (λ z. z ∷ []) (sym e)
taken_more (y ∷ xs) (suc k) x h e = ap (λ zs. y ∷ zs) (taken_more xs k x (omega (arith, h)) e)

map_joined : {A B : Type 0} (f : A → B) (xs ys : List A) → map f (xs ++ ys) ≡ map f xs ++ map f ys
map_joined f [] ys = refl
map_joined f (x ∷ xs) ys = ap (λ zs. f x ∷ zs) (map_joined f xs ys)

-- one more value pushed is one more taken
pub map_step : {A B X : Type 0} (f : A → X) (g : B → X) (xs : List B) (k : ℕ) (x : B) (ys ys' : List A) (y : A) → k < length xs → x ≡ get_or xs k x → ys' ≡ ys ++ y ∷ [] → f y ≡ g x → map f ys ≡ map g (take k xs) → map f ys' ≡ map g (take (k + 1) xs)
map_step f g xs k x ys ys' y h e p q r =
    ap (map f) p ∙ map_joined f ys (y ∷ []) ∙ ap₂ (λ zs b. zs ++ b ∷ []) r q ∙ sym (map_joined g (take k xs) (x ∷ [])) ∙ ap (map g) (sym (taken_more xs k x h e)) ∙ ap (λ n. map g (take n xs)) (let z : suc k ≡ k + 1 = omega arith in z)

module _ {A : Type 0} where
  pub member_at : (xs : List A) (k : ℕ) (x : A) → k < length xs → x ≡ get_or xs k x → Member x xs
  member_at [] k x h e = absurd (omega (arith, h))
  member_at (y ∷ xs) zero x h e = inl e
  member_at (y ∷ xs) (suc k) x h e = inr (member_at xs k x (omega (arith, h)) e)

  pub found_at : (xs : List A) (k : ℕ) (x : A) → k < length xs → x ≡ get_or xs k x → slice_get xs k ≡ Some x
  found_at [] k x h e = absurd (omega (arith, h))
  found_at (y ∷ xs) zero x h e = let q : y ≡ x = sym e in subst (λ z. Some y ≡ Some z) q refl
  found_at (y ∷ xs) (suc k) x h e = found_at xs k x (omega (arith, h)) e

  pub taken_next : (xs : List A) (k : ℕ) (x y : A) → k < length xs → x ≡ get_or xs k x → Member y (take (k + 1) xs) → Member y (take k xs) ⊎ (y ≡ x)
  taken_next xs k x y h e m = go xs k h e (subst (λ n. Member y (take n xs)) (let q : k + 1 ≡ suc k = omega arith in q) m)
    where
      go : (xs : List A) (k : ℕ) → k < length xs → x ≡ get_or xs k x → Member y (take (suc k) xs) → Member y (take k xs) ⊎ (y ≡ x)
      go [] k h e m = absurd (omega (arith, h))
      go (z ∷ xs) zero h e (inl q) = inr (q ∙ sym e)
      go (z ∷ xs) zero h e (inr q) = absurd q
      go (z ∷ xs) (suc k) h e (inl q) = inl (inl q)
      go (z ∷ xs) (suc k) h e (inr m) = elim (go xs k (omega (arith, h)) e m) [ inl n ↦ inl (inr n) | inr q ↦ inr q ]

  pub taken_whole : (xs : List A) (k : ℕ) (y : A) → length xs ≤ k → Member y xs → Member y (take k xs)
  taken_whole xs k y h m = subst (Member y) (sym (take_all k xs h)) m

  pub removed : (xs : List A) (k : ℕ) (x y : A) → k < length xs → x ≡ get_or xs k x → Member y xs → (y ≡ x) ⊎ Member y (remove xs k)
  removed [] k x y h e m = absurd m
  removed (z ∷ xs) zero x y h e (inl q) = inl (q ∙ sym e)
  removed (z ∷ xs) zero x y h e (inr m) = inr m
  removed (z ∷ xs) (suc k) x y h e (inl q) = inr (inl q)
  removed (z ∷ xs) (suc k) x y h e (inr m) = elim (removed xs k x y (omega (arith, h)) e m) [ inl q ↦ inl q | inr n ↦ inr (inr n) ]

  pub kept : (xs : List A) (k : ℕ) (y : A) → Member y (remove xs k) → Member y xs
  kept [] k y m = subst (Member y) (nothing_left k) m
    where
      nothing_left : (k : ℕ) → remove {X = A} [] k ≡ []
      nothing_left zero = refl
      nothing_left (suc k) = refl
  kept (z ∷ xs) zero y m = inr m
  kept (z ∷ xs) (suc k) y (inl q) = inl q
  kept (z ∷ xs) (suc k) y (inr m) = inr (kept xs k y m)

  pub pushed : (xs : List A) (x y : A) → Member y (xs ++ x ∷ []) → Member y xs ⊎ (y ≡ x)
  pushed [] x y (inl q) = inr q
  pushed [] x y (inr m) = absurd m
  pushed (z ∷ xs) x y (inl q) = inl (inl q)
  pushed (z ∷ xs) x y (inr m) = elim (pushed xs x y m) [ inl n ↦ inl (inr n) | inr q ↦ inr q ]

  pub before_push : (xs : List A) (x y : A) → Member y xs → Member y (xs ++ x ∷ [])
  before_push [] x y m = absurd m
  before_push (z ∷ xs) x y (inl q) = inl q
  before_push (z ∷ xs) x y (inr m) = inr (before_push xs x y m)

  pub at_push : (xs : List A) (x : A) → Member x (xs ++ x ∷ [])
  at_push [] x = inl refl
  at_push (z ∷ xs) x = inr (at_push xs x)

  -- the same where a default stands for what isn't there
  pub get_member : (xs : List A) (k : ℕ) (d : A) → k < length xs → Member (get_or xs k d) xs
  get_member [] k d h = absurd (omega (arith, h))
  get_member (y ∷ xs) zero d h = inl refl
  get_member (y ∷ xs) (suc k) d h = inr (get_member xs k d (omega (arith, h)))

  pub taken_get : (xs : List A) (k : ℕ) (d y : A) → k < length xs → Member y (take (k + 1) xs) → Member y (take k xs) ⊎ (y ≡ get_or xs k d)
  taken_get xs k d y h m = taken_next xs k (get_or xs k d) y h (same xs k h) m
    where
      same : (xs : List A) (k : ℕ) → k < length xs → get_or xs k d ≡ get_or xs k (get_or xs k d)
      same [] k h = absurd (omega (arith, h))
      same (z ∷ xs) zero h = refl
      same (z ∷ xs) (suc k) h = same xs k (omega (arith, h))
