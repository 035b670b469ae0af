-- Lists looked at one element after the other.
use Rattle.std.proofs.Common.{◌≡◌, ◌↔◌, ℕ, zero, suc, ◌+◌, ◌<◌, ◌≤◌, List, [], ◌∷◌, length, drop, take, map, get_or, add-one, drop-cons, refl, sym, ap, ◌∙◌, subst, arith, inl, inr}
use Rattle.std.proofs.Math.ListN.{drop_of_length-le}
use Rattle.std.specs.Prelude.{Bool, true, false, Option, Some, None, ◌⊎◌, cond, slice_get}
use Rattle.lf.specs.Subordination.{Block, Member}
use Rattle.lf.specs.Syntax.{LfType}
use Rattle.lf.specs.Variables.{same_number, target}
use Rattle.lf_checks.specs.WorldFaults.{WorldRow, worlds_of}
use Rattle.tw_world.specs.Serving.{is_below_target}
use Rattle.tw_signature.proofs.Marking.{same_not, same_self}

-- from one element on
pub mapped_at : {X A : Type 0} (f : X → A) (xs : List X) (k : ℕ) (x : X) → k < length xs → x ≡ get_or xs k x → map f (drop k xs) ≡ f x ∷ map f (drop (k + 1) xs)
mapped_at f xs k x h e = rw (add-one, drop-cons xs k x) (ap (λ y. f y ∷ map f (drop (suc k) xs)) (sym e))

pub mapped_end : {X A : Type 0} (f : X → A) (xs : List X) (k : ℕ) → length xs ≤ k → map f (drop k xs) ≡ []
mapped_end f xs k h = ap (map f) (drop_of_length-le xs h)

-- whether something is among them
pub absent_next : {X A : Type 0} (f : X → A) (a : A) (xs : List X) (k : ℕ) (x : X) (W : Type 0) → k < length xs → x ≡ get_or xs k x → (a ≡ f x → ⊥) → Member a (map f (drop k xs)) ↔ W → Member a (map f (drop (k + 1) xs)) ↔ W
absent_next f a xs k x W h e n (p, q) = (λ m. p (subst (Member a) (sym (mapped_at f xs k x h e)) (inr m)), λ w. by (subst (Member a) (mapped_at f xs k x h e) (q w)))
  where
    by : (a ≡ f x) ⊎ Member a (map f (drop (k + 1) xs)) → Member a (map f (drop (k + 1) xs))
    by (inl r) = absurd (n r)
    by (inr m) = m

pub present : {X A : Type 0} (f : X → A) (a : A) (xs : List X) (k : ℕ) (x : X) (W : Type 0) → k < length xs → x ≡ get_or xs k x → a ≡ f x → Member a (map f (drop k xs)) ↔ W → W
present f a xs k x W h e r (p, q) = p (subst (Member a) (sym (mapped_at f xs k x h e)) (inl r))

pub absent : {X A : Type 0} (f : X → A) (a : A) (xs : List X) (k : ℕ) (W : Type 0) → length xs ≤ k → Member a (map f (drop k xs)) ↔ W → W → ⊥
absent f a xs k W h (p, q) w = subst (Member a) (mapped_end f xs k h) (q w)

-- whether all of them are so
abbrev pub AllAre : {A : Type 0} → (A → Type 0) → List A → Type 0
AllAre {A} S xs = (a : A) → Member a xs → S a

pub all_next : {X A : Type 0} (f : X → A) (S : A → Type 0) (xs : List X) (k : ℕ) (x : X) (W : Type 0) → k < length xs → x ≡ get_or xs k x → S (f x) → AllAre S (map f (drop k xs)) ↔ W → AllAre S (map f (drop (k + 1) xs)) ↔ W
all_next {X} {A} f S xs k x W h e s (p, q) = (λ g. p (λ a m. by g a (subst (Member a) (mapped_at f xs k x h e) m)), λ w a m. q w a (subst (Member a) (sym (mapped_at f xs k x h e)) (inr m)))
  where
    by : AllAre S (map f (drop (k + 1) xs)) → (a : A) → (a ≡ f x) ⊎ Member a (map f (drop (k + 1) xs)) → S a
    by g a (inl r) = subst S (sym r) s
    by g a (inr m) = g a m

pub all_fails : {X A : Type 0} (f : X → A) (S : A → Type 0) (xs : List X) (k : ℕ) (x : X) (W : Type 0) → k < length xs → x ≡ get_or xs k x → (S (f x) → ⊥) → AllAre S (map f (drop k xs)) ↔ W → W → ⊥
all_fails f S xs k x W h e n (p, q) w = n (q w (f x) (subst (Member (f x)) (sym (mapped_at f xs k x h e)) (inl refl)))

pub all_done : {X A : Type 0} (f : X → A) (S : A → Type 0) (xs : List X) (k : ℕ) (W : Type 0) → length xs ≤ k → AllAre S (map f (drop k xs)) ↔ W → W
all_done f S xs k W h (p, q) = p (λ a m. absurd (subst (Member a) (mapped_end f xs k h) m))

-- the first row of a family
pub other_row : {X : Type 0} (g : X → WorldRow) (xs : List X) (k : ℕ) (x : X) (f : ℕ) → k < length xs → x ≡ get_or xs k x → ((g x).family ≡ f → ⊥) → worlds_of (map g (drop (k + 1) xs)) f ≡ worlds_of (map g (drop k xs)) f
other_row g xs k x f h e n = sym (ap (λ rs. worlds_of rs f) (mapped_at g xs k x h e) ∙ ap (λ b. cond b (Some (g x).blocks) (worlds_of (map g (drop (k + 1) xs)) f)) (same_not (g x).family f n))

pub this_row : {X : Type 0} (g : X → WorldRow) (xs : List X) (k : ℕ) (x : X) (f : ℕ) → k < length xs → x ≡ get_or xs k x → (g x).family ≡ f → Some (g x).blocks ≡ worlds_of (map g (drop k xs)) f
this_row g xs k x f h e r = sym (ap (λ rs. worlds_of rs f) (mapped_at g xs k x h e) ∙ ap (λ b. cond b (Some (g x).blocks) (worlds_of (map g (drop (k + 1) xs)) f)) (ap (same_number (g x).family) (sym r) ∙ same_self (g x).family))

pub no_row : {X : Type 0} (g : X → WorldRow) (xs : List X) (k f : ℕ) → length xs ≤ k → None ≡ worlds_of (map g (drop k xs)) f
no_row g xs k f h = sym (ap (λ rs. worlds_of rs f) (mapped_end g xs k h))

-- equal contexts
pub same_lists : (xs ys : List LfType) → length xs ≡ length ys → ((i : ℕ) → i < length xs → slice_get xs i ≡ slice_get ys i) → xs ≡ ys
same_lists [] [] l h = refl
same_lists [] (y ∷ ys) l h = absurd (omega (arith, l))
same_lists (x ∷ xs) [] l h = absurd (omega (arith, l))
same_lists (x ∷ xs) (y ∷ ys) l h = let p : x ≡ y = some_same (h 0 (omega arith)) in ap (λ z. z ∷ xs) p ∙ ap (λ zs. y ∷ zs) (same_lists xs ys (omega (arith, l)) (λ i b. h (suc i) (omega (arith, b))))
  where
    some_same : {A B : LfType} → Some A ≡ Some B → A ≡ B
    some_same e = cc

-- what is below
pub member_place : (E : LfType) (D : List LfType) → Member E D → (i : ℕ) × (i < length D) × (slice_get D i ≡ Some E)
member_place E [] m = absurd m
member_place E (A ∷ D) (inl e) = (0, omega arith, ap Some (sym e))
member_place E (A ∷ D) (inr m) = let (i, b, e) = member_place E D m in (suc i, omega (arith, b), e)

pub place_member : (D : List LfType) (i : ℕ) (T : ℕ → Bool) → is_below_target T (slice_get D i) ≡ true → (E : LfType) × Member E D × (T (target E) ≡ true)
place_member [] zero T e = absurd cc
place_member [] (suc i) T e = absurd cc
place_member (A ∷ D) zero T e = (A, inl refl, e)
place_member (A ∷ D) (suc i) T e = let (E, m, q) = place_member D i T e in (E, inr m, q)

pub none_is_below : (D : List LfType) (T : ℕ → Bool) → ((i : ℕ) → i < length D → is_below_target T (slice_get D i) ≡ false) → (E : LfType) → Member E D → T (target E) ≡ false
none_is_below D T h E m = let (i, b, e) = member_place E D m in ap (is_below_target T) (sym e) ∙ h i b

pub some_is_below : (D : List LfType) (T : ℕ → Bool) (i : ℕ) → is_below_target T (slice_get D i) ≡ true → ((E : LfType) → Member E D → T (target E) ≡ false) → ⊥
some_is_below D T i e h = let (E, m, q) = place_member D i T e in clash (sym q ∙ h E m)
  where
    clash : true ≡ false → ⊥
    clash r = cc

pub member_at : {X A : Type 0} (f : X → A) (xs : List X) (k : ℕ) (x : X) → k < length xs → x ≡ get_or xs k x → Member (f x) (map f xs)
member_at f [] k x h e = absurd (omega (arith, h))
member_at f (y ∷ xs) zero x h e = inl (ap f e)
member_at f (y ∷ xs) (suc k) x h e = inr (member_at f xs k x (omega (arith, h)) e)

pub member_push : {X A : Type 0} (f : X → A) (a : A) (xs : List X) (k : ℕ) (x : X) → k < length xs → x ≡ get_or xs k x → Member a (map f (take (k + 1) xs)) → (a ≡ f x) ⊎ Member a (map f (take k xs))
member_push {X} f a xs k x h e m = by xs k h e (subst (λ n. Member a (map f (take n xs))) (let q : k + 1 ≡ suc k = omega arith in q) m)
  where
    by : (ys : List X) (j : ℕ) → j < length ys → x ≡ get_or ys j x → Member a (map f (take (suc j) ys)) → (a ≡ f x) ⊎ Member a (map f (take j ys))
    by [] j l q w = absurd (omega (arith, l))
    by (y ∷ ys) zero l q (inl r) = inl (r ∙ ap f (sym q))
    by (y ∷ ys) zero l q (inr r) = absurd r
    by (y ∷ ys) (suc j) l q (inl r) = inr (inl r)
    by (y ∷ ys) (suc j) l q (inr r) = on (by ys j (omega (arith, l)) q r)
      where
        on : (a ≡ f x) ⊎ Member a (map f (take j ys)) → (a ≡ f x) ⊎ Member a (map f (take (suc j) (y ∷ ys)))
        on (inl w) = inl w
        on (inr w) = inr (inr w)

pub served : {M : Type 0} (known : Option (List Block)) (V : List Block) (S : List Block → Type 0) (a b : Bool) → a ≡ false → (a ≡ true) ↔ M → Some V ≡ known → (b ≡ true) ↔ S V → (b ≡ true) ↔ (M ⊎ (known ≡ None) ⊎ ((U : List Block) × (known ≡ Some U) × S U))
served {M} known V S a b f (p, q) e (r, s) = (λ w. inr (inr (V, sym e, r w)), back)
  where
    clash : true ≡ false → ⊥
    clash z = cc

    none : Some V ≡ None → ⊥
    none z = cc

    same : (U : List Block) → Some V ≡ Some U → U ≡ V
    same U z = cc

    back : M ⊎ (known ≡ None) ⊎ ((U : List Block) × (known ≡ Some U) × S U) → b ≡ true
    back (inl m) = absurd (clash (sym (q m) ∙ f))
    back (inr (inl n)) = absurd (none (e ∙ n))
    back (inr (inr (U, u, w))) = s (subst S (same U (e ∙ u)) w)
