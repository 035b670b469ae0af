-- A store with one binding more, and with one variable more.
use Rattle.std.proofs.Common.{◌≡◌, ◌≢◌, ℕ, zero, suc, ◌<◌, ◌≤◌, ◌⊎◌, inl, inr, List, [], ◌∷◌, ◌++◌, length, Option, Some, None, slice_get, slice_set, arith, refl, sym, ap, ◌∙◌, subst, length-append}
use Rattle.std.proofs.lemmas.Option.{slice_get_within}
use Rattle.std.proofs.Math.ListN.{length-set}
use Rattle.lf.specs.Syntax.{Skeleton}
use Rattle.tw_shapes.specs.Shapes.{Shape, AllVariables, IsWithin, filled, Store, with_variable, with_binding, joined, value_at, place_of, value_of, Solves, IsUnused}
use Rattle.tw_shapes.specs.Order.{height, height_at, IsOrdered, count_unbound}
use Rattle.tw_shapes.proofs.Variables.{all-both, all-map, filled-same}
use Rattle.tw_shapes.proofs.Walks.{bound_height}

-- Lists.
decide : (m n : ℕ) → (m ≡ n) ⊎ (m ≡ n → ⊥)
decide zero zero = inl refl
decide zero (suc n) = inr (λ e. cc)
decide (suc m) zero = inr (λ e. cc)
decide (suc m) (suc n) = go (decide m n)
  where
    go : (m ≡ n) ⊎ (m ≡ n → ⊥) → (suc m ≡ suc n) ⊎ (suc m ≡ suc n → ⊥)
    go (inl e) = inl (ap suc e)
    go (inr f) = inr (λ e. f (let p : m ≡ n = cc in p))

get_set : {A : Type 0} (xs : List A) (m : ℕ) (x : A) → m < length xs → slice_get (slice_set xs m x) m ≡ Some x
get_set [] m x h = absurd (omega arith)
get_set (z ∷ zs) zero x h = refl
get_set (z ∷ zs) (suc m) x h = get_set zs m x (omega arith)

get_set_other : {A : Type 0} (xs : List A) (m n : ℕ) (x : A) → (n ≡ m → ⊥) → slice_get (slice_set xs m x) n ≡ slice_get xs n
get_set_other [] m n x h = refl
get_set_other (z ∷ zs) zero zero x h = absurd (h refl)
get_set_other (z ∷ zs) zero (suc n) x h = refl
get_set_other (z ∷ zs) (suc m) zero x h = refl
get_set_other (z ∷ zs) (suc m) (suc n) x h = get_set_other zs m n x (λ e. h (ap suc e))

get_left : {A : Type 0} (xs ys : List A) (n : ℕ) → n < length xs → slice_get (xs ++ ys) n ≡ slice_get xs n
get_left [] ys n h = absurd (omega arith)
get_left (z ∷ zs) ys zero h = refl
get_left (z ∷ zs) ys (suc n) h = get_left zs ys n (omega arith)

get_last : {A : Type 0} (xs : List A) (y : A) → slice_get (xs ++ y ∷ []) (length xs) ≡ Some y
get_last [] y = refl
get_last (z ∷ zs) y = get_last zs y

joined_grown : {A : Type 0} (xs : List (Option A)) (n : ℕ) → joined (slice_get (xs ++ None ∷ []) n) ≡ joined (slice_get xs n)
joined_grown [] zero = refl
joined_grown [] (suc n) = refl
joined_grown (z ∷ zs) zero = refl
joined_grown (z ∷ zs) (suc n) = joined_grown zs n

joined_within : {A : Type 0} (xs : List (Option A)) (n : ℕ) (x : A) → joined (slice_get xs n) ≡ Some x → n < length xs
joined_within [] n x e = absurd cc
joined_within (z ∷ zs) zero x e = omega arith
joined_within (z ∷ zs) (suc n) x e = let h = joined_within zs n x e in omega arith

-- One binding more.
count_after : (s : Store) (S : Shape) → length (s.values ++ S ∷ []) ≡ suc (length s.values)
count_after s S = omega (arith, length-append s.values (S ∷ []))

place_here : (s : Store) (m : ℕ) (S : Shape) → m < length s.places → place_of (with_binding s m S) m ≡ Some (length s.values)
place_here s m S h = ap joined (get_set s.places m (Some (length s.values)) h)

place_elsewhere : (s : Store) (m n : ℕ) (S : Shape) → (n ≡ m → ⊥) → place_of (with_binding s m S) n ≡ place_of s n
place_elsewhere s m n S h = ap joined (get_set_other s.places m n (Some (length s.values)) h)

pub value_here : (s : Store) (m : ℕ) (S : Shape) → m < length s.places → value_of (with_binding s m S) m ≡ Some S
value_here s m S h = ap (value_at (s.values ++ S ∷ [])) (place_here s m S h) ∙ get_last s.values S

value_elsewhere_at : (values : List Shape) (S : Shape) (o : Option ℕ) → ((p : ℕ) → o ≡ Some p → p < length values) → value_at (values ++ S ∷ []) o ≡ value_at values o
value_elsewhere_at values S (Some p) h = get_left values (S ∷ []) p (h p refl)
value_elsewhere_at values S None h = refl

pub value_elsewhere : (s : Store) → IsOrdered s → (m n : ℕ) (S : Shape) → (n ≡ m → ⊥) → value_of (with_binding s m S) n ≡ value_of s n
value_elsewhere s o m n S h = ap (value_at (s.values ++ S ∷ [])) (place_elsewhere s m n S h) ∙ value_elsewhere_at s.values S (place_of s n) (o.placed n)

height_here : (s : Store) (m : ℕ) (S : Shape) → m < length s.places → height (with_binding s m S) m ≡ 1
height_here s m S h = let e = count_after s S in ap (height_at (length (s.values ++ S ∷ []))) (place_here s m S h) ∙ (omega arith)

higher_at : (k : ℕ) (o : Option ℕ) → height_at (suc k) o ≤ suc (height_at k o)
higher_at k (Some p) = omega arith
higher_at k None = omega arith

height_elsewhere : (s : Store) (m n : ℕ) (S : Shape) → (n ≡ m → ⊥) → height (with_binding s m S) n ≡ height_at (suc (length s.values)) (place_of s n)
height_elsewhere s m n S h = ap (λ k. height_at k (place_of (with_binding s m S) n)) (count_after s S) ∙ ap (height_at (suc (length s.values))) (place_elsewhere s m n S h)

-- one more of a bound variable
one_higher_at : (values : List Shape) (o : Option ℕ) (T : Shape) → value_at values o ≡ Some T → height_at (suc (length values)) o ≡ suc (height_at (length values) o)
one_higher_at values (Some p) T e = let h : p < length values = slice_get_within values p T e in omega arith
one_higher_at values None T e = absurd cc

gone : (xs : List Shape) (n : ℕ) → n < length xs → slice_get xs n ≡ None → ⊥
gone [] n lt q = omega arith
gone (x ∷ xs) zero lt q = cc
gone (x ∷ xs) (suc n) lt q = gone xs n (omega arith) q

free_height_at : (values : List Shape) (k : ℕ) (o : Option ℕ) → ((p : ℕ) → o ≡ Some p → p < length values) → value_at values o ≡ None → height_at k o ≡ 0
free_height_at values k (Some p) h e = absurd (gone values p (h p refl) e)
free_height_at values k None h e = refl

lower_after : (s : Store) → IsOrdered s → (m : ℕ) (S : Shape) → m < length s.places → value_of s m ≡ None → (n : ℕ) (T : Shape) → (n ≡ m → ⊥) → value_of s n ≡ Some T → (i : ℕ) → height s i < height s n → height (with_binding s m S) i < height (with_binding s m S) n
lower_after s o m S h free n T ne e i lt = go (decide i m)
  where
    go : (i ≡ m) ⊎ (i ≡ m → ⊥) → height (with_binding s m S) i < height (with_binding s m S) n
    go (inl q) =
        let a : height (with_binding s m S) i ≡ 1 = ap (height (with_binding s m S)) q ∙ height_here s m S h in
        let b : height (with_binding s m S) n ≡ suc (height s n) = height_elsewhere s m n S ne ∙ one_higher_at s.values (place_of s n) T e in
        let c : 0 < height s n = bound_height s n T e in
        omega arith
    go (inr f) =
        let a : height (with_binding s m S) i ≡ height_at (suc (length s.values)) (place_of s i) = height_elsewhere s m i S f in
        let a' : height_at (suc (length s.values)) (place_of s i) ≤ suc (height s i) = higher_at (length s.values) (place_of s i) in
        let b : height (with_binding s m S) n ≡ suc (height s n) = height_elsewhere s m n S ne ∙ one_higher_at s.values (place_of s n) T e in
        omega arith

-- A variable may be bound to a shape of other free variables.
pub bound-ordered : (s : Store) → IsOrdered s → (m : ℕ) (S : Shape) → m < length s.places → value_of s m ≡ None → IsWithin (length s.places) S → AllVariables (λ n. value_of s n ≡ None) S → AllVariables (λ n. n ≢ m) S → IsOrdered (with_binding s m S)
bound-ordered s o m S h free inside frees others = record {
  placed = λ n p e. placed n p e (decide n m);
  lower = λ n T e. lower n T e (decide n m);
  within = λ n T e. subst (λ k. IsWithin k T) (sym (length-set s.places m (Some (length s.values)))) (within n T e (decide n m));
}
  where
    placed : (n p : ℕ) → place_of (with_binding s m S) n ≡ Some p → (n ≡ m) ⊎ (n ≡ m → ⊥) → p < length (s.values ++ S ∷ [])
    placed n p e (inl q) =
        let k : Some p ≡ Some (length s.values) = sym e ∙ (ap (place_of (with_binding s m S)) q ∙ place_here s m S h) in
        let k' : p ≡ length s.values = cc in
        let c = count_after s S in
        omega arith
    placed n p e (inr f) = let k = o.placed n p (sym (place_elsewhere s m n S f) ∙ e) in let c = count_after s S in omega arith

    lower : (n : ℕ) (T : Shape) → value_of (with_binding s m S) n ≡ Some T → (n ≡ m) ⊎ (n ≡ m → ⊥) → AllVariables (λ i. height (with_binding s m S) i < height (with_binding s m S) n) T
    lower n T e (inl q) =
        let k : Some T ≡ Some S = sym e ∙ (ap (value_of (with_binding s m S)) q ∙ value_here s m S h) in
        let k' : T ≡ S = cc in
        let one : height (with_binding s m S) n ≡ 1 = ap (height (with_binding s m S)) q ∙ height_here s m S h in
        subst (λ X. AllVariables (λ i. height (with_binding s m S) i < height (with_binding s m S) n) X) (sym k')
        (all-both (λ i. value_of s i ≡ None) (λ i. i ≢ m) (λ i. height (with_binding s m S) i < height (with_binding s m S) n)
        (λ i u ne. let z : height (with_binding s m S) i ≡ 0 = height_elsewhere s m i S ne ∙ free_height_at s.values (suc (length s.values)) (place_of s i) (o.placed i) u in omega arith) S frees others)
    lower n T e (inr f) =
        let was : value_of s n ≡ Some T = sym (value_elsewhere s o m n S f) ∙ e in
        all-map (λ i. height s i < height s n) (λ i. height (with_binding s m S) i < height (with_binding s m S) n) (lower_after s o m S h free n T f was) T (o.lower n T was)

    within : (n : ℕ) (T : Shape) → value_of (with_binding s m S) n ≡ Some T → (n ≡ m) ⊎ (n ≡ m → ⊥) → IsWithin (length s.places) T
    within n T e (inl q) =
        let k : Some T ≡ Some S = sym e ∙ (ap (value_of (with_binding s m S)) q ∙ value_here s m S h) in
        let k' : S ≡ T = cc in
        subst (λ X. IsWithin (length s.places) X) k' inside
    within n T e (inr f) = o.within n T (sym (value_elsewhere s o m n S f) ∙ e)

-- what solves it
pub bound-kept : (s : Store) → IsOrdered s → (m : ℕ) (S : Shape) → value_of s m ≡ None → (θ : ℕ → Skeleton) → Solves θ (with_binding s m S) → Solves θ s
bound-kept s o m S free θ h = record { holds = λ n T e. go n T e (decide n m) }
  where
    go : (n : ℕ) (T : Shape) → value_of s n ≡ Some T → (n ≡ m) ⊎ (n ≡ m → ⊥) → θ n ≡ filled θ T
    go n T e (inl q) = let k : Some T ≡ None = sym e ∙ (ap (value_of s) q ∙ free) in absurd cc
    go n T e (inr f) = h.holds n T (value_elsewhere s o m n S f ∙ e)

pub bound-every : (s : Store) → IsOrdered s → (m : ℕ) (S : Shape) → m < length s.places → (θ : ℕ → Skeleton) → Solves θ s → θ m ≡ filled θ S → Solves θ (with_binding s m S)
bound-every s o m S lt θ h holds_here = record { holds = λ n T e. go n T e (decide n m) }
  where
    go : (n : ℕ) (T : Shape) → value_of (with_binding s m S) n ≡ Some T → (n ≡ m) ⊎ (n ≡ m → ⊥) → θ n ≡ filled θ T
    go n T e (inl q) =
        let k : Some T ≡ Some S = sym e ∙ (ap (value_of (with_binding s m S)) q ∙ value_here s m S lt) in
        let k' : S ≡ T = cc in
        ap θ q ∙ (holds_here ∙ ap (filled θ) k')
    go n T e (inr f) = h.holds n T (sym (value_elsewhere s o m n S f) ∙ e)

-- One variable more.
pub value_grown : (s : Store) (n : ℕ) → value_of (with_variable s) n ≡ value_of s n
value_grown s n = ap (value_at s.values) (joined_grown s.places n)

height_grown : (s : Store) (n : ℕ) → height (with_variable s) n ≡ height s n
height_grown s n = ap (height_at (length s.values)) (joined_grown s.places n)

pub grown-ordered : (s : Store) → IsOrdered s → IsOrdered (with_variable s)
grown-ordered s o = record {
  placed = λ m p e. o.placed m p (sym (joined_grown s.places m) ∙ e);
  lower = λ m S e. all-map (λ n. height s n < height s m) (λ n. height (with_variable s) n < height (with_variable s) m)
      (λ n lt. let a = height_grown s n in let b = height_grown s m in omega arith) S (o.lower m S (sym (value_grown s m) ∙ e));
  within = λ m S e. all-map (λ n. n < length s.places) (λ n. n < length (s.places ++ None ∷ []))
      (λ n lt. omega (arith, length-append s.places (None ∷ []))) S (o.within m S (sym (value_grown s m) ∙ e));
}

pub grown-kept : (s : Store) (θ : ℕ → Skeleton) → Solves θ (with_variable s) → Solves θ s
grown-kept s θ h = record { holds = λ m S e. h.holds m S (value_grown s m ∙ e) }

pub grown-every : (s : Store) (θ : ℕ → Skeleton) → Solves θ s → Solves θ (with_variable s)
grown-every s θ h = record { holds = λ m S e. h.holds m S (sym (value_grown s m) ∙ e) }

value_at_place : (s : Store) (m : ℕ) (S : Shape) (o : Option ℕ) → place_of s m ≡ o → value_at s.values o ≡ Some S → m < length s.places
value_at_place s m S (Some p) e v = joined_within s.places m p e
value_at_place s m S None e v = absurd cc

pub grown-unused : (s : Store) → IsOrdered s → IsUnused (with_variable s) (length s.places)
grown-unused s o = record { any = λ θ ρ same h. record { holds = λ n S e. go θ ρ same h n S (sym (value_grown s n) ∙ e) } }
  where
    go : (θ ρ : ℕ → Skeleton) → ((n : ℕ) → n ≢ length s.places → ρ n ≡ θ n) → Solves θ (with_variable s) → (n : ℕ) (S : Shape) → value_of s n ≡ Some S → ρ n ≡ filled ρ S
    go θ ρ same h n S e =
        let lt : n < length s.places = value_at_place s n S (place_of s n) refl e in
        let there : filled ρ S ≡ filled θ S = filled-same ρ θ S (all-map (λ i. i < length s.places) (λ i. ρ i ≡ θ i) (λ i k. same i (λ q. omega arith)) S (o.within n S e)) in
        same n (λ q. omega arith) ∙ (h.holds n S (value_grown s n ∙ e) ∙ sym there)

pub fewer-unbound : (P : List (Option ℕ)) (m p : ℕ) → m < length P → joined (slice_get P m) ≡ None → count_unbound P ≡ suc (count_unbound (slice_set P m (Some p)))
fewer-unbound [] m p h e = absurd (omega arith)
fewer-unbound (None ∷ os) zero p h e = refl
fewer-unbound (Some q ∷ os) zero p h e = absurd cc
fewer-unbound (None ∷ os) (suc m) p h e = ap suc (fewer-unbound os m p (omega arith) e)
fewer-unbound (Some q ∷ os) (suc m) p h e = fewer-unbound os m p (omega arith) e

free_place_at : (values : List Shape) (o : Option ℕ) → ((p : ℕ) → o ≡ Some p → p < length values) → value_at values o ≡ None → o ≡ None
free_place_at values (Some p) h e = absurd (gone values p (h p refl) e)
free_place_at values None h e = refl

-- a variable without a value has no place
pub free-place : (s : Store) → IsOrdered s → (m : ℕ) → value_of s m ≡ None → place_of s m ≡ None
free-place s o m e = free_place_at s.values (place_of s m) (o.placed m) e
