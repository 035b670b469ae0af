-- Lists of different numbers, and the places of their elements.
use Rattle.std.proofs.Common.{◌≡◌, ℕ, suc, ◌+◌, ◌<◌, ◌≤◌, ◌⊎◌, inl, inr, List, [], ◌∷◌, ◌++◌, length, length-append, Option, Some, None, Bool, true, false, cond, ◌==◌, refl, sym, ap, ap₂, ◌∙◌, subst, arith}
use Rattle.std.proofs.lemmas.Bool.Decides.{Decides-eqb}
use Rattle.lf.specs.Subordination.{Member}
use Rattle.tw_abstract.specs.Positions.{first_of, index}
use Rattle.tw_abstract.specs.Reordered.{TakesIndices}
use Rattle.tw_abstract.proofs.Choosing.{indexed_member, member_indexed}
use Rattle.tw_putting.specs.Whole.{AreDistinct}

pub member_right : (xs ys : List ℕ) (m : ℕ) → Member m ys → Member m (xs ++ ys)
member_right [] ys m i = i
member_right (x ∷ xs) ys m i = inr (member_right xs ys m i)

pub member_either : (xs ys : List ℕ) (m : ℕ) → Member m (xs ++ ys) → Member m xs ⊎ Member m ys
member_either [] ys m i = inr i
member_either (x ∷ xs) ys m (inl e) = inl (inl e)
member_either (x ∷ xs) ys m (inr i) = elim (member_either xs ys m i) [ inl j ↦ inl (inr j) | inr j ↦ inr j ]

-- the places of a member
pub split_at : (ns : List ℕ) (m : ℕ) → Member m ns → (xs ys : List ℕ) × (ns ≡ xs ++ m ∷ ys)
split_at [] m i = absurd i
split_at (n ∷ ns) m (inl e) = ([], ns, ap (λ k. k ∷ ns) (sym e))
split_at (n ∷ ns) m (inr i) = let (xs, ys, e) = split_at ns m i in (n ∷ xs, ys, ap (λ ks. n ∷ ks) e)

-- none stands before itself
abbrev pub NoneBeforeItself : List ℕ → Type 0
NoneBeforeItself ns = (before behind : List ℕ) (m : ℕ) → ns ≡ before ++ m ∷ behind → Member m before → ⊥

pub distinct_splits : (ns : List ℕ) → NoneBeforeItself ns → AreDistinct ns
distinct_splits [] h = tt
distinct_splits (n ∷ ns) h = (
  λ i. let (xs, ys, e) = split_at ns n i in h (n ∷ xs) ys n (ap (λ ks. n ∷ ks) e) (inl refl),
  distinct_splits ns (λ before behind m e i. h (n ∷ before) behind m (ap (λ ks. n ∷ ks) e) (inr i)),
)

pub distinct_last : (ns : List ℕ) (n : ℕ) → AreDistinct ns → (Member n ns → ⊥) → AreDistinct (ns ++ n ∷ [])
distinct_last [] n d h = ((λ i. i), tt)
distinct_last (x ∷ ns) n (f, d) h = ((λ i. elim (member_either ns (n ∷ []) x i) [ inl j ↦ f j | inr j ↦ elim j [ inl e ↦ h (inl (sym e)) | inr k ↦ k ] ]), distinct_last ns n d (λ i. h (inr i)))

-- different numbers of a list are at most as many
pub at_most : (ns ms : List ℕ) → AreDistinct ns → ((m : ℕ) → Member m ns → Member m ms) → length ns ≤ length ms
at_most [] ms d h = omega arith
at_most (n ∷ ns) ms (f, d) h =
    let (xs, ys, e) = split_at ms n (h n (inl refl)) in
    let r : length ns ≤ length (xs ++ ys) = at_most ns (xs ++ ys) d (λ m i. others xs ys m (λ q. f (subst (λ k. Member k ns) q i)) (subst (Member m) e (h m (inr i)))) in
    let a : length ms ≡ length xs + length (n ∷ ys) = ap length e ∙ length-append xs (n ∷ ys) in
    let b : length (xs ++ ys) ≡ length xs + length ys = length-append xs ys in
    let c : length (n ∷ ys) ≡ suc (length ys) = refl in
    omega (arith, r, a, b, c)
  where
    others : (xs ys : List ℕ) (m : ℕ) → (m ≡ n → ⊥) → Member m (xs ++ n ∷ ys) → Member m (xs ++ ys)
    others [] ys m k (inl q) = absurd (k q)
    others [] ys m k (inr i) = i
    others (x ∷ xs) ys m k (inl q) = inl q
    others (x ∷ xs) ys m k (inr i) = inr (others xs ys m k i)

-- the element that is variable i
abbrev pub at_index : List ℕ → ℕ → Option ℕ
at_index [] i = None
at_index (n ∷ ns) i = cond (length ns == i) (Some n) (at_index ns i)

is_false : (b : Bool) → (b ≡ true → ⊥) → b ≡ false
is_false true k = absurd (k refl)
is_false false k = refl

same_number : (m n : ℕ) → m ≡ n → (m == n) ≡ true
same_number m n e = (Decides-eqb m n).1 e

other_number : (m n : ℕ) → (m ≡ n → ⊥) → (m == n) ≡ false
other_number m n h = is_false (m == n) (λ t. h ((Decides-eqb m n).0 t))

pub index_below : (ns : List ℕ) (m i : ℕ) → index ns m ≡ Some i → i < length ns
index_below [] m i e = cc
index_below (n ∷ ns) m i e = go (index_below ns m) (index ns m) refl (n == m) refl
  where
    go : ((j : ℕ) → index ns m ≡ Some j → j < length ns) → (r : Option ℕ) → index ns m ≡ r → (b : Bool) → (n == m) ≡ b → i < length (n ∷ ns)
    go others (Some j) q b t =
        let z : Some j ≡ Some i = ap (λ r. first_of r (cond (n == m) (Some (length ns)) None)) (sym q) ∙ e in
        let w : j ≡ i = cc in
        let l : j < length ns = others j q in
        omega (arith, w, l)
    go others None q true t =
        let z : Some (length ns) ≡ Some i = ap (λ b. cond b (Some (length ns)) None) (sym t) ∙ ap (λ r. first_of r (cond (n == m) (Some (length ns)) None)) (sym q) ∙ e in
        let w : length ns ≡ i = cc in
        omega (arith, w)
    go others None q false t = (let z : None ≡ Some i = ap (λ b. cond b (Some (length ns)) None) (sym t) ∙ ap (λ r. first_of r (cond (n == m) (Some (length ns)) None)) (sym q) ∙ e in cc)

pub at_of_index : (ns : List ℕ) (m i : ℕ) → index ns m ≡ Some i → at_index ns i ≡ Some m
at_of_index [] m i e = cc
at_of_index (n ∷ ns) m i e = go (at_of_index ns m) (index ns m) refl (n == m) refl
  where
    go : ((j : ℕ) → index ns m ≡ Some j → at_index ns j ≡ Some m) → (r : Option ℕ) → index ns m ≡ r → (b : Bool) → (n == m) ≡ b → at_index (n ∷ ns) i ≡ Some m
    go others (Some j) q b t =
        let z : Some j ≡ Some i = ap (λ r. first_of r (cond (n == m) (Some (length ns)) None)) (sym q) ∙ e in
        let w : j ≡ i = cc in
        let l : j < length ns = index_below ns m j q in
        let no : length ns ≡ i → ⊥ = λ h. omega (arith, h, w, l) in
        ap (λ b. cond b (Some n) (at_index ns i)) (other_number (length ns) i no) ∙ ap (at_index ns) (sym w) ∙ others j q
    go others None q true t =
        let z : Some (length ns) ≡ Some i = ap (λ b. cond b (Some (length ns)) None) (sym t) ∙ ap (λ r. first_of r (cond (n == m) (Some (length ns)) None)) (sym q) ∙ e in
        let w : length ns ≡ i = cc in
        ap (λ b. cond b (Some n) (at_index ns i)) (same_number (length ns) i w) ∙ ap Some ((Decides-eqb n m).0 t)
    go others None q false t = (let z : None ≡ Some i = ap (λ b. cond b (Some (length ns)) None) (sym t) ∙ ap (λ r. first_of r (cond (n == m) (Some (length ns)) None)) (sym q) ∙ e in cc)

pub at_below : (ns : List ℕ) (i : ℕ) → i < length ns → (m : ℕ) × (at_index ns i ≡ Some m)
at_below [] i l = absurd (omega arith)
at_below (n ∷ ns) i l = go (at_below ns i) (length ns == i) refl
  where
    go : (i < length ns → (m : ℕ) × (at_index ns i ≡ Some m)) → (b : Bool) → (length ns == i) ≡ b → (m : ℕ) × (at_index (n ∷ ns) i ≡ Some m)
    go others true t = (n, ap (λ b. cond b (Some n) (at_index ns i)) t)
    go others false t =
        let no : length ns ≡ i → ⊥ = λ h. (let z : false ≡ true = sym t ∙ same_number (length ns) i h in cc) in
        let k : i < length ns = omega arith in
        let (m, e) = others k in
        (m, ap (λ b. cond b (Some n) (at_index ns i)) t ∙ e)

pub at_past : (ns : List ℕ) (i : ℕ) → length ns ≤ i → at_index ns i ≡ None
at_past [] i l = refl
at_past (n ∷ ns) i l =
    let no : length ns ≡ i → ⊥ = λ h. omega (arith, h, l) in
    ap (λ b. cond b (Some n) (at_index ns i)) (other_number (length ns) i no) ∙ at_past ns i (omega arith)

pub at_member : (ns : List ℕ) (i m : ℕ) → at_index ns i ≡ Some m → Member m ns
at_member [] i m e = cc
at_member (n ∷ ns) i m e = go (at_member ns i m) (length ns == i) refl
  where
    go : (at_index ns i ≡ Some m → Member m ns) → (b : Bool) → (length ns == i) ≡ b → Member m (n ∷ ns)
    go others true t = let z : Some n ≡ Some m = ap (λ b. cond b (Some n) (at_index ns i)) (sym t) ∙ e in inl (let q : m ≡ n = cc in q)
    go others false t = inr (others (ap (λ b. cond b (Some n) (at_index ns i)) (sym t) ∙ e))

at_within : (ns : List ℕ) (i m : ℕ) → at_index ns i ≡ Some m → i < length ns
at_within [] i m e = cc
at_within (n ∷ ns) i m e = go (at_within ns i m) (length ns == i) refl
  where
    go : (at_index ns i ≡ Some m → i < length ns) → (b : Bool) → (length ns == i) ≡ b → i < length (n ∷ ns)
    go others true t = let q : length ns ≡ i = (Decides-eqb (length ns) i).0 t in omega (arith, q)
    go others false t = let h : i < length ns = others (ap (λ b. cond b (Some n) (at_index ns i)) (sym t) ∙ e) in omega (arith, h)

-- the index of an element that stands once
pub index_at : (ns : List ℕ) (i m : ℕ) → AreDistinct ns → at_index ns i ≡ Some m → index ns m ≡ Some i
index_at [] i m d e = cc
index_at (n ∷ ns) i m (f, d) e = go (index_at ns i m d) (length ns == i) refl
  where
    none : (r : Option ℕ) → index ns n ≡ r → r ≡ None
    none None q = refl
    none (Some j) q = absurd (f (indexed_member ns n j q))

    go : (at_index ns i ≡ Some m → index ns m ≡ Some i) → (b : Bool) → (length ns == i) ≡ b → index (n ∷ ns) m ≡ Some i
    go others true t =
        let z : Some n ≡ Some m = ap (λ b. cond b (Some n) (at_index ns i)) (sym t) ∙ e in
        let q : n ≡ m = cc in
        ap (index (n ∷ ns)) (sym q) ∙ ap (λ r. first_of r (cond (n == n) (Some (length ns)) None)) (none (index ns n) refl) ∙ ap (λ b. cond b (Some (length ns)) None) (same_number n n refl) ∙ ap Some ((Decides-eqb (length ns) i).0 t)
    go others false t = ap (λ r. first_of r (cond (n == m) (Some (length ns)) None)) (others (ap (λ b. cond b (Some n) (at_index ns i)) (sym t) ∙ e))

-- where a variable of the one list stands in the other; what is past the list stays
abbrev pub place_or : ℕ → Option ℕ → ℕ
place_or i (Some j) = j
place_or i None = i

abbrev pub place_of : List ℕ → ℕ → Option ℕ → ℕ
place_of ms i (Some m) = place_or i (index ms m)
place_of ms i None = i

abbrev pub moved_place : List ℕ → List ℕ → ℕ → ℕ
moved_place ns ms i = place_of ms i (at_index ns i)

pub takes_places : (ns ms : List ℕ) → ((m : ℕ) → Member m ns → Member m ms) → TakesIndices (index ns) (index ms) (moved_place ns ms)
takes_places ns ms h m i e =
    let (j, q) = member_indexed ms m (h m (indexed_member ns m i e)) in
    q ∙ ap Some (sym (ap (place_of ms i) (at_of_index ns m i e) ∙ ap (place_or i) q))

pub places_back : (ns ms : List ℕ) → AreDistinct ns → AreDistinct ms → ((m : ℕ) → Member m ns → Member m ms) → ((m : ℕ) → Member m ms → Member m ns) → (i : ℕ) → moved_place ms ns (moved_place ns ms i) ≡ i
places_back ns ms d d' h h' i = go (at_index ns i) refl
  where
    as_long : length ms ≤ length ns
    as_long = at_most ms ns d' h'

    past : (r : Option ℕ) → at_index ms i ≡ r → at_index ns i ≡ None → r ≡ None
    past None q e = refl
    past (Some m) q e =
        let l : i < length ms = at_within ms i m q in
        let k : i < length ns = omega (arith, l, as_long) in
        let (n, p) = at_below ns i k in
        (let z : None ≡ Some n = sym e ∙ p in cc)

    go : (r : Option ℕ) → at_index ns i ≡ r → moved_place ms ns (moved_place ns ms i) ≡ i
    go None q =
        let stays : moved_place ns ms i ≡ i = ap (place_of ms i) q in
        ap (moved_place ms ns) stays ∙ ap (place_of ns i) (past (at_index ms i) refl q)
    go (Some m) q =
        let (j, e) = member_indexed ms m (h m (at_member ns i m q)) in
        let goes : moved_place ns ms i ≡ j = ap (place_of ms i) q ∙ ap (place_or i) e in
        ap (moved_place ms ns) goes ∙ ap (place_of ns j) (at_of_index ms m j e) ∙ ap (place_or j) (index_at ns i m d q)

-- a number that stands once splits its list in one way
pub one_split : (b c b' c' : List ℕ) (m : ℕ) → b ++ m ∷ c ≡ b' ++ m ∷ c' → (Member m b → ⊥) → (Member m b' → ⊥) → b ≡ b'
one_split [] c [] c' m e h h' = refl
one_split [] c (x ∷ b') c' m e h h' = absurd (h' (inl (let q : m ≡ x = cc in q)))
one_split (x ∷ b) c [] c' m e h h' = absurd (h (inl (let q : m ≡ x = cc in q)))
one_split (x ∷ b) c (y ∷ b') c' m e h h' =
    let p : x ≡ y = cc in
    let q : b ++ m ∷ c ≡ b' ++ m ∷ c' = cc in
    ap₂ (λ z zs. z ∷ zs) p (one_split b c b' c' m q (λ i. h (inr i)) (λ i. h' (inr i)))

pub distinct_before : (b c : List ℕ) (m : ℕ) → AreDistinct (b ++ m ∷ c) → Member m b → ⊥
distinct_before [] c m d i = i
distinct_before (x ∷ b) c m (f, d) (inl e) = f (subst (λ k. Member k (b ++ m ∷ c)) e (member_right b (m ∷ c) m (inl refl)))
distinct_before (x ∷ b) c m (f, d) (inr i) = distinct_before b c m d i
