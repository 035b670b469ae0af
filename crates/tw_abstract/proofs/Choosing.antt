-- Choosing the next quantifier.
use Rattle.std.proofs.Common.{◌≡◌, ℕ, zero, suc, ◌<◌, ◌≤◌, ◌+◌, inl, inr, List, [], ◌∷◌, ◌++◌, append_assoc, length, map, take, set, get_or, Option, Some, None, Bool, true, false, cond, ◌==◌, is_some, slice_get, refl, sym, ap, ◌∙◌, subst, arith, below_more}
use Rattle.std.proofs.lemmas.Bool.Decides.{Decides-eqb}
use Rattle.std.proofs.lemmas.Grind.{get_or-set_at}
use Rattle.std.proofs.lemmas.List.{append-nil, get_or-set_other}
use Rattle.lf.specs.Subordination.{Member}
use Rattle.tw_terms.specs.declared.canonical.MetaId.{MetaId}
use Rattle.tw_abstract.specs.Order.{CanFollow, EachIsNext, IsNext, NoneIsNext, Waiting}
use Rattle.tw_abstract.specs.OrderView.{AreChosen, AreMet, waiting_of}
use Rattle.tw_abstract.specs.Positions.{first_of, index}
use Rattle.tw_abstract.specs.declared.order.Candidate.{Candidate}

-- what has an index is there, and the other way around
pub indexed_member : (ns : List ℕ) (m i : ℕ) → index ns m ≡ Some i → Member m ns
indexed_member [] m i e = cc
indexed_member (x ∷ ns) m i e = go (indexed_member ns m) (index ns m) refl (x == m) refl
  where
    go : ((j : ℕ) → index ns m ≡ Some j → Member m ns) → (r : Option ℕ) → index ns m ≡ r → (b : Bool) → (x == m) ≡ b → Member m (x ∷ ns)
    go others (Some j) q b t = inr (others j q)
    go others None q true t = inl (sym ((Decides-eqb x m).0 t))
    go others None q false t = (let z : None ≡ Some i = ap (λ b. cond b (Some (length ns)) None) (sym t) ∙ ap (λ r. first_of r (cond (x == m) (Some (length ns)) None)) (sym q) ∙ e in cc)

pub member_indexed : (ns : List ℕ) (m : ℕ) → Member m ns → (i : ℕ) × (index ns m ≡ Some i)
member_indexed [] m h = absurd h
member_indexed (x ∷ ns) m (inr h) = let (i, e) = member_indexed ns m h in (i, ap (λ r. first_of r (cond (x == m) (Some (length ns)) None)) e)
member_indexed (x ∷ ns) m (inl h) = go (index ns m) refl
  where
    go : (r : Option ℕ) → index ns m ≡ r → (i : ℕ) × (index (x ∷ ns) m ≡ Some i)
    go (Some j) q = (j, ap (λ r. first_of r (cond (x == m) (Some (length ns)) None)) q)
    go None q = (length ns, ap (λ r. first_of r (cond (x == m) (Some (length ns)) None)) q ∙ ap (λ b. cond b (Some (length ns)) None) ((Decides-eqb x m).1 (sym h)))

pub found : (ns : List ℕ) (m : ℕ) (r : Option ℕ) → r ≡ index ns m → is_some r ≡ true → Member m ns
found ns m None e i = cc
found ns m (Some k) e i = indexed_member ns m k (sym e)

pub not_found : (ns : List ℕ) (m : ℕ) (r : Option ℕ) → r ≡ index ns m → is_some r ≡ false → Member m ns → ⊥
not_found ns m (Some k) e i h = cc
not_found ns m None e i h = let (k, q) = member_indexed ns m h in (let z : None ≡ Some k = e ∙ q in cc)

-- the places of a list
pub member_left : (xs ys : List ℕ) (m : ℕ) → Member m xs → Member m (xs ++ ys)
member_left [] ys m h = absurd h
member_left (x ∷ xs) ys m (inl e) = inl e
member_left (x ∷ xs) ys m (inr h) = inr (member_left xs ys m h)

pub member_last : (xs : List ℕ) (m : ℕ) → Member m (xs ++ m ∷ [])
member_last [] m = inl refl
member_last (x ∷ xs) m = inr (member_last xs m)

pub get_within : {A : Type 0} (xs : List A) (k : ℕ) (x : A) → slice_get xs k ≡ Some x → k < length xs
get_within [] k x e = absurd (let z : None ≡ Some x = e in cc)
get_within (y ∷ xs) zero x e = omega arith
get_within (y ∷ xs) (suc k) x e = let h = get_within xs k x e in omega (arith, h)

get_there : {A : Type 0} (xs : List A) (k : ℕ) → k < length xs → (x : A) × (slice_get xs k ≡ Some x)
get_there [] k h = absurd (omega arith)
get_there (y ∷ xs) zero h = (y, refl)
get_there (y ∷ xs) (suc k) h = get_there xs k (omega arith)

number_at : (ns : List MetaId) (k : ℕ) (n : MetaId) → slice_get ns k ≡ Some n → Member n.0 (map (λ n. n.0) ns)
number_at [] k n e = absurd (let z : None ≡ Some n = e in cc)
number_at (x ∷ ns) zero n e = inl (let q : n ≡ x = (let z : Some x ≡ Some n = e in cc) in ap (λ n. n.0) q)
number_at (x ∷ ns) (suc k) n e = inr (number_at ns k n e)

place_of_number : (ns : List MetaId) (m : ℕ) → Member m (map (λ n. n.0) ns) → (k : ℕ) × (n : MetaId) × (slice_get ns k ≡ Some n) × (m ≡ n.0)
place_of_number [] m h = absurd h
place_of_number (x ∷ ns) m (inl e) = (zero, x, refl, e)
place_of_number (x ∷ ns) m (inr h) = let (k, n, e, q) = place_of_number ns m h in (suc k, n, e, q)

pub entry_at : {A : Type 0} (xs : List A) (k : ℕ) (x : A) → k < length xs → x ≡ get_or xs k x → slice_get xs k ≡ Some x
entry_at [] k x h e = absurd (omega arith)
entry_at (y ∷ xs) zero x h e = ap Some (sym e)
entry_at (y ∷ xs) (suc k) x h e = entry_at xs k x (omega arith) e

get_is : {A : Type 0} (xs : List A) (k : ℕ) (d x : A) → slice_get xs k ≡ Some x → get_or xs k d ≡ x
get_is [] k d x e = absurd (let z : None ≡ Some x = e in cc)
get_is (y ∷ xs) zero d x e = (let z : Some y ≡ Some x = e in cc)
get_is (y ∷ xs) (suc k) d x e = get_is xs k d x e

-- one more need is chosen, or isn't
pub next_chosen : (chosen : List ℕ) (needs : List MetaId) (count : ℕ) (d : MetaId) (r : Option ℕ) → AreChosen chosen needs count → r ≡ index chosen (get_or needs count d).0 → is_some r ≡ true → AreChosen chosen needs (count + 1)
next_chosen chosen needs count d r a e i k n h g =
    below_more (λ k. (n : MetaId) → slice_get needs k ≡ Some n → Member n.0 chosen) count (λ k h n g. a k n h g)
    (λ n g. subst (λ x. Member x.0 chosen) (get_is needs count d n g) (found chosen (get_or needs count d).0 r e i)) k h n g

pub not_chosen : (chosen : List ℕ) (needs : List MetaId) (count : ℕ) (d : MetaId) (r : Option ℕ) → r ≡ index chosen (get_or needs count d).0 → is_some r ≡ false → (n : MetaId) → slice_get needs count ≡ Some n → Member n.0 chosen → ⊥
not_chosen chosen needs count d r e i n g h = not_found chosen (get_or needs count d).0 r e i (subst (λ x. Member x.0 chosen) (sym (get_is needs count d n g)) h)

pub none_there : (chosen : List ℕ) (needs : List MetaId) (count : ℕ) → length needs ≤ count → (n : MetaId) → slice_get needs count ≡ Some n → Member n.0 chosen → ⊥
none_there chosen needs count l n g h = let w = get_within needs count n g in omega arith

-- a candidate can follow where all its needs are chosen, and can't where one isn't
pub can_follow : (chosen : List ℕ) (c : Candidate) (count : ℕ) → (Member c.meta.0 chosen → ⊥) → AreChosen chosen c.needs.items count → count ≡ length c.needs.items → CanFollow chosen (waiting_of c)
can_follow chosen c count f a e = (f, λ n h. let (k, x, g, q) = place_of_number c.needs.items n h in subst (λ n. Member n chosen) (sym q) (a k x (subst (λ l. k < l) (sym e) (get_within c.needs.items k x g)) g))

pub cannot_follow : (chosen : List ℕ) (c : Candidate) (count : ℕ) → count < length c.needs.items → ((n : MetaId) → slice_get c.needs.items count ≡ Some n → Member n.0 chosen → ⊥) → CanFollow chosen (waiting_of c) → ⊥
cannot_follow chosen c count h l (f, a) = let (n, e) = get_there c.needs.items count h in l n e (a n.0 (number_at c.needs.items count n e))

-- none before this place can follow
abbrev pub NoneBefore : List ℕ → List Candidate → ℕ → Type 0
NoneBefore chosen cs i = (j : ℕ) (d : Candidate) → j < i → slice_get cs j ≡ Some d → CanFollow chosen (waiting_of d) → ⊥

pub one_before_more : (chosen : List ℕ) (cs : List Candidate) (i : ℕ) (c : Candidate) → slice_get cs i ≡ Some c → NoneBefore chosen cs i → (CanFollow chosen (waiting_of c) → ⊥) → NoneBefore chosen cs (i + 1)
one_before_more chosen cs i c s n f j d h g =
    below_more (λ j. (d : Candidate) → slice_get cs j ≡ Some d → CanFollow chosen (waiting_of d) → ⊥) i (λ j h d g. n j d h g)
    (λ d g. let q : c ≡ d = (let z : Some c ≡ Some d = sym s ∙ g in cc) in subst (λ x. CanFollow chosen (waiting_of x) → ⊥) q f) j h d g

pub next_here : (chosen : List ℕ) (cs : List Candidate) (i : ℕ) (c : Candidate) → slice_get cs i ≡ Some c → CanFollow chosen (waiting_of c) → NoneBefore chosen cs i → IsNext (map waiting_of cs) chosen c.meta.0
next_here chosen [] i c e f n = absurd (let z : None ≡ Some c = e in cc)
next_here chosen (x ∷ cs) zero c e f n =
    let q : x ≡ c = (let z : Some x ≡ Some c = e in cc) in
    inl (ap (λ x. x.meta.0) q, subst (λ x. CanFollow chosen (waiting_of x)) (sym q) f)
next_here chosen (x ∷ cs) (suc i) c e f n = inr (n zero x (omega arith) refl, next_here chosen cs i c e f (λ j d h. n (suc j) d (omega arith)))

pub none_next : (chosen : List ℕ) (cs : List Candidate) (i : ℕ) → length cs ≤ i → NoneBefore chosen cs i → NoneIsNext (map waiting_of cs) chosen
none_next chosen [] i l n = tt
none_next chosen (x ∷ cs) i l n = (n zero x (omega arith) refl, none_next chosen cs (length cs) (omega arith) (λ j d h. n (suc j) d (omega arith)))

-- the counts
pub one_met : (chosen : List ℕ) (cs : List Candidate) (met : List ℕ) (i count : ℕ) (c : Candidate) → i < length met → AreMet chosen cs met → slice_get cs i ≡ Some c → count ≤ length c.needs.items → AreChosen chosen c.needs.items count → AreMet chosen cs (set met i count)
one_met chosen cs met i count c b a e l h j d g = go (i == j) refl
  where
    go : (b : Bool) → (i == j) ≡ b → (get_or (set met i count) j 0 ≤ length d.needs.items) × AreChosen chosen d.needs.items (get_or (set met i count) j 0)
    go true t =
        let q : j ≡ i = sym ((Decides-eqb i j).0 t) in
        let s : c ≡ d = (let z : Some c ≡ Some d = sym e ∙ ap (slice_get cs) (sym q) ∙ g in cc) in
        let r : count ≡ get_or (set met i count) j 0 = sym (get_or-set_at met i j count 0 q b) in
        subst (λ x. (x ≤ length d.needs.items) × AreChosen chosen d.needs.items x) r (subst (λ c. (count ≤ length c.needs.items) × AreChosen chosen c.needs.items count) s (l, h))
    go false t =
        let f : j ≡ i → ⊥ = (λ q. let z = sym t ∙ (Decides-eqb i j).1 (sym q) in cc) in
        subst (λ x. (x ≤ length d.needs.items) × AreChosen chosen d.needs.items x) (sym (get_or-set_other met i j count 0 f)) (a j d g)

pub chosen_grow : (chosen : List ℕ) (m : ℕ) (cs : List Candidate) (met : List ℕ) → AreMet chosen cs met → AreMet (chosen ++ m ∷ []) cs met
chosen_grow chosen m cs met a i c e = let (l, h) = a i c e in (l, λ k n x y. member_left chosen (m ∷ []) n.0 (h k n x y))

pub none_met : (cs : List Candidate) (met : List ℕ) → ((i : ℕ) → get_or met i 0 ≡ 0) → AreMet [] cs met
none_met cs met z i c e = (subst (λ x. x ≤ length c.needs.items) (sym (z i)) (omega arith), λ k n h y. absurd (let q = z i in omega arith))

-- what is written back to the front of a list of as many
pub front : (xs zs : List ℕ) (l : ℕ) → l ≡ length xs → take l (xs ++ zs) ≡ xs
front xs zs l e = ap (λ n. take n (xs ++ zs)) e ∙ all_of xs
  where
    all_of : (xs : List ℕ) → take (length xs) (xs ++ zs) ≡ xs
    all_of [] = refl
    all_of (x ∷ xs) = ap (λ ys. x ∷ ys) (all_of xs)

-- one more is chosen
pub each_and_next : (es : List Waiting) (done ms : List ℕ) (m : ℕ) → EachIsNext es done ms → IsNext es (done ++ ms) m → EachIsNext es done (ms ++ m ∷ [])
each_and_next es done [] m e n = (subst (λ x. IsNext es x m) (append-nil done) n, tt)
each_and_next es done (x ∷ ms) m (e, f) n = (e, each_and_next es (done ++ x ∷ []) ms m f (subst (λ y. IsNext es y m) (sym (append_assoc done (x ∷ []) ms)) n))

-- how many aren't chosen
abbrev pub count_if_none : Option ℕ → ℕ
count_if_none None = 1
count_if_none (Some i) = 0

abbrev pub waiting_count : List ℕ → List Candidate → ℕ
waiting_count chosen [] = 0
waiting_count chosen (c ∷ cs) = count_if_none (index chosen c.meta.0) + waiting_count chosen cs

none_is_one : (ns : List ℕ) (m : ℕ) → (Member m ns → ⊥) → count_if_none (index ns m) ≡ 1
none_is_one ns m f = go (index ns m) refl
  where
    go : (r : Option ℕ) → index ns m ≡ r → count_if_none r ≡ 1
    go None q = refl
    go (Some i) q = absurd (f (indexed_member ns m i q))

some_is_zero : (ns : List ℕ) (m : ℕ) → Member m ns → count_if_none (index ns m) ≡ 0
some_is_zero ns m h = let (i, e) = member_indexed ns m h in ap count_if_none e

-- no more wait when one is added
fewer_at : (ns : List ℕ) (n m : ℕ) → count_if_none (index (ns ++ n ∷ []) m) ≤ count_if_none (index ns m)
fewer_at ns n m = go (index ns m) refl (index (ns ++ n ∷ []) m) refl
  where
    go : (r : Option ℕ) → index ns m ≡ r → (s : Option ℕ) → index (ns ++ n ∷ []) m ≡ s → count_if_none s ≤ count_if_none r
    go None q None p = omega arith
    go None q (Some j) p = omega arith
    go (Some i) q (Some j) p = omega arith
    go (Some i) q None p =
        let (j, e) = member_indexed (ns ++ n ∷ []) m (member_left ns (n ∷ []) m (indexed_member ns m i q)) in
        (let z : None ≡ Some j = sym p ∙ e in cc)

fewer : (cs : List Candidate) (ns : List ℕ) (n : ℕ) → waiting_count (ns ++ n ∷ []) cs ≤ waiting_count ns cs
fewer [] ns n = omega arith
fewer (c ∷ cs) ns n = omega (arith, fewer cs ns n, fewer_at ns n c.meta.0)

pub fewer_wait : (cs : List Candidate) (ns : List ℕ) (m : ℕ) → IsNext (map waiting_of cs) ns m → waiting_count (ns ++ m ∷ []) cs < waiting_count ns cs
fewer_wait [] ns m h = absurd h
fewer_wait (c ∷ cs) ns m (inr (f, h)) = omega (arith, fewer_wait cs ns m h, fewer_at ns m c.meta.0)
fewer_wait (c ∷ cs) ns m (inl (e, f)) =
    let one : count_if_none (index ns c.meta.0) ≡ 1 = none_is_one ns c.meta.0 f.0 in
    let zero : count_if_none (index (ns ++ m ∷ []) c.meta.0) ≡ 0 = some_is_zero (ns ++ m ∷ []) c.meta.0 (subst (λ x. Member x (ns ++ m ∷ [])) (sym e) (member_last ns m)) in
    omega (arith, fewer cs ns m, one, zero)

pub stand_before_more : (chosen : List ℕ) (cs : List Candidate) (i : ℕ) (c : Candidate) → slice_get cs i ≡ Some c → Member c.meta.0 chosen → ((j : ℕ) (d : Candidate) → j < i → slice_get cs j ≡ Some d → Member d.meta.0 chosen) → (j : ℕ) (d : Candidate) → j < i + 1 → slice_get cs j ≡ Some d → Member d.meta.0 chosen
stand_before_more chosen cs i c s f n j d h g =
    below_more (λ j. (d : Candidate) → slice_get cs j ≡ Some d → Member d.meta.0 chosen) i (λ j h d g. n j d h g)
    (λ d g. let q : c ≡ d = (let z : Some c ≡ Some d = sym s ∙ g in cc) in subst (λ x. Member x.meta.0 chosen) q f) j h d g

-- fewer are met than there are
pub met_less : (met : List ℕ) (at count l n : ℕ) → at < length met → (get_or (set met at count) at 0 ≡ l → ⊥) → l ≡ n → count ≤ n → count < n
met_less met at count l n b f e h =
    let g : count ≡ n → ⊥ = (λ q. f (get_or-set_at met at at count 0 refl b ∙ q ∙ sym e)) in
    omega arith

-- all of a list are chosen
pub all_chosen : (chosen : List ℕ) (cs : List Candidate) → ((i : ℕ) (c : Candidate) → slice_get cs i ≡ Some c → Member c.meta.0 chosen) → (e : Waiting) → Member e (map waiting_of cs) → Member e.of chosen
all_chosen chosen [] h e i = absurd i
all_chosen chosen (c ∷ cs) h e (inl q) = subst (λ x. Member x.of chosen) (sym q) (h zero c refl)
all_chosen chosen (c ∷ cs) h e (inr i) = all_chosen chosen cs (λ j d. h (suc j) d) e i

pub candidate_waits : (cs : List Candidate) (i : ℕ) (c : Candidate) → slice_get cs i ≡ Some c → Member (waiting_of c) (map waiting_of cs)
candidate_waits [] i c e = absurd (let z : None ≡ Some c = e in cc)
candidate_waits (x ∷ cs) zero c e = inl (let q : c ≡ x = (let z : Some x ≡ Some c = e in cc) in ap waiting_of q)
candidate_waits (x ∷ cs) (suc i) c e = inr (candidate_waits cs i c e)
