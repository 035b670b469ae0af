-- The table of a local context.
use Rattle.std.proofs.Common.{◌≡◌, ◌↔◌, ℕ, zero, suc, ◌+◌, ◌-◌, ◌<◌, ◌≤◌, List, [], ◌∷◌, ◌++◌, length, drop, take, set, length-append, refl, sym, ap, ap₂, ◌∙◌, subst, arith, inl, inr}
use Rattle.std.specs.Prelude.{Bool, true, false, Some, None, ◌⊎◌, Result, Ok, Err, IfOk, cond, slice_get}
use Rattle.lf.specs.Subordination.{Block, Member}
use Rattle.lf.specs.Substitution.{Image}
use Rattle.lf.specs.Syntax.{LfType, pi, atom}
use Rattle.lf.specs.Typing.{Signature, TypeAt, IsType, IsContext}
use Rattle.lf.specs.Variables.{binders, onto, same_number, Values, everything}
use Rattle.lf.specs.Worlds.{instance}
use Rattle.lf_checks.specs.Worlded.{IsSequence, no_instance, next_instance, IsStrictBlock, IsTerm}
use Rattle.tw_hered.specs.declared.fault.HeredFault.{HeredFault}
use Rattle.tw_world.specs.Sequences.{Adds, Extends, OpenAt, SequenceGoesDeep, Stands, StandsDeep, TableAt, first_said, none_said, says}
use Rattle.tw_world.proofs.Joining.{drop_first}
use Rattle.lf.proofs.Checker.{number_is}
use Rattle.tw_signature.proofs.Marking.{same_not, same_self}

-- One place of the table.
pub said_after : (t : List Bool) (p k : ℕ) → p < length t → says (set t p true) k ≡ cond (same_number k p) true (says t k)
said_after [] p k h = absurd (omega (arith, h))
said_after (b ∷ t) zero zero h = refl
said_after (b ∷ t) zero (suc k) h = refl
said_after (b ∷ t) (suc p) zero h = refl
said_after (b ∷ t) (suc p) (suc k) h = said_after t p k (omega (arith, h))

cond_true : (b c : Bool) → c ≡ true → cond b true c ≡ true
cond_true true c e = refl
cond_true false c e = e

pub still_said : (old new : List Bool) (p : ℕ) → ((k : ℕ) → says new k ≡ cond (same_number k p) true (says old k)) → (k : ℕ) → says old k ≡ true → says new k ≡ true
still_said old new p h k e = h k ∙ cond_true (same_number k p) (says old k) e

clash : true ≡ false → ⊥
clash e = cc

-- The first table.
pub none_next : (xs ys : List Bool) (n : ℕ) → xs ≡ none_said n → ys ≡ xs ++ false ∷ [] → ys ≡ none_said (n + 1)
none_next xs ys n e f = f ∙ ap (λ zs. zs ++ false ∷ []) e ∙ ap none_said (let q : suc n ≡ n + 1 = omega arith in q)

none_length : (n : ℕ) → length (none_said n) ≡ n
none_length zero = refl
none_length (suc n) = let a = length-append (none_said n) (false ∷ []) in let b = none_length n in omega (arith, a, b)

said_first : (xs : List Bool) (b : Bool) → says (xs ++ b ∷ []) (length xs) ≡ b
said_first [] b = refl
said_first (x ∷ xs) b = said_first xs b

said_behind : (xs : List Bool) (b : Bool) (k : ℕ) → says (xs ++ b ∷ []) k ≡ true → (k ≡ length xs) ⊎ (says xs k ≡ true)
said_behind [] b zero e = inl refl
said_behind [] b (suc k) e = absurd (clash (sym e))
said_behind (x ∷ xs) b zero e = inr e
said_behind (x ∷ xs) b (suc k) e = by (said_behind xs b k e)
  where
    by : (k ≡ length xs) ⊎ (says xs k ≡ true) → (suc k ≡ length (x ∷ xs)) ⊎ (says (x ∷ xs) (suc k) ≡ true)
    by (inl q) = inl (ap suc q)
    by (inr q) = inr q

none_true : (n k : ℕ) → says (none_said n) k ≡ true → ⊥
none_true zero k e = clash (sym e)
none_true (suc n) k e = by (said_behind (none_said n) false k e) (none_true n k)
  where
    by : (k ≡ length (none_said n)) ⊎ (says (none_said n) k ≡ true) → (says (none_said n) k ≡ true → ⊥) → ⊥
    by (inl q) ih = clash (sym e ∙ ap (says (none_said n ++ false ∷ [])) q ∙ said_first (none_said n) false)
    by (inr q) ih = ih q

drop_all : (D : List LfType) (k : ℕ) → length D ≤ k → drop k D ≡ []
drop_all [] zero h = refl
drop_all [] (suc k) h = refl
drop_all (A ∷ D) zero h = absurd (omega (arith, h))
drop_all (A ∷ D) (suc k) h = drop_all D k (omega (arith, h))

all_dropped : (D : List LfType) (k : ℕ) → k ≤ length D → drop k D ≡ [] → k ≡ length D
all_dropped [] zero h e = refl
all_dropped [] (suc k) h e = absurd (omega (arith, h))
all_dropped (A ∷ D) zero h e = absurd cc
all_dropped (A ∷ D) (suc k) h e = let q = all_dropped D k (omega (arith, h)) e in omega (arith, q)

first_is : (n k : ℕ) → says (first_said n) k ≡ true → k ≡ n
first_is n k e = by (said_behind (none_said n) true k e)
  where
    by : (k ≡ length (none_said n)) ⊎ (says (none_said n) k ≡ true) → k ≡ n
    by (inl q) = q ∙ none_length n
    by (inr q) = absurd (none_true n k q)

pub first_table_stands : (Σ : Signature) (W : List Block) (C D : List LfType) (t o : List Bool) → t ≡ first_said (length D) → o ≡ none_said (suc (length D)) → TableAt Σ W [] C D (length D) t o
first_table_stands Σ W C D t o e f = record {
  size = ap length e ∙ (let a = length-append (none_said (length D)) (true ∷ []) in let b = none_length (length D) in let q : length (first_said (length D)) ≡ suc (length D) = omega (arith, a, b) in q);
  deep_size = ap length f ∙ none_length (suc (length D));
  start = ap (λ x. says x (length D)) e ∙ ap (says (first_said (length D))) (sym (none_length (length D))) ∙ said_first (none_said (length D)) true;
  sound = λ k s. subst (IsSequence Σ W C) (sym (drop_all D k (let q = first_is (length D) k (ap (λ x. says x k) (sym e) ∙ s) in omega (arith, q)))) no_instance;
  deep = λ k s. absurd (none_deep k s);
  settled = λ k l s. absurd (none_deep k s);
  complete = λ k B m w h s st. absurd (never k B w h);
}
  where
    none_deep : (k : ℕ) → says o k ≡ true → ⊥
    none_deep k s = none_true (suc (length D)) k (ap (λ x. says x k) (sym f) ∙ s)

    never : (k : ℕ) (B : Block) → (length D < k) ⊎ ((k ≡ length D) × Member B []) → k ≤ length D → ⊥
    never k B (inl l) h = omega (arith, l, h)
    never k B (inr (q, m)) h = m

-- Parts of a context.
nil_dropped : (k : ℕ) → drop {A = LfType} k [] ≡ []
nil_dropped zero = refl
nil_dropped (suc k) = refl

drop_more : (X : List LfType) (a b : ℕ) → drop b (drop a X) ≡ drop (a + b) X
drop_more X zero b = ap (λ n. drop n X) (let q : b ≡ 0 + b = omega arith in q)
drop_more [] (suc a) b = nil_dropped b ∙ sym (nil_dropped (suc a + b))
drop_more (A ∷ X) (suc a) b = drop_more X a b ∙ ap (λ n. drop n (A ∷ X)) (let q : suc (a + b) ≡ suc a + b = omega arith in q)

joined : (D : List LfType) (l k : ℕ) → l ≤ k → k ≤ length D → drop (k - l) D ≡ onto (take l (drop (k - l) D)) (drop k D)
joined D l k h w = split (drop (k - l) D) l ∙ ap (onto (take l (drop (k - l) D))) (drop_more D (k - l) l ∙ ap (λ n. drop n D) (let q : k - l + l ≡ k = omega (arith, h) in q))
  where
    split : (X : List LfType) (l : ℕ) → X ≡ onto (take l X) (drop l X)
    split X zero = refl
    split [] (suc l) = refl
    split (A ∷ X) (suc l) = ap (λ Y. A ∷ Y) (split X l)

-- what stands there makes one more sequence
one_more_sequence : (Σ : Signature) (W : List Block) (C D : List LfType) (k : ℕ) (B : Block) → Member B W → k ≤ length D → Stands Σ (onto (drop k D) C) D k B → IsSequence Σ W C (drop k D) → IsSequence Σ W C (drop (k - length B.entries) D)
one_more_sequence Σ W C D k B m h st s =
    let (θ, v, e) = st.is_instance in
    subst (IsSequence Σ W C) (ap (λ X. onto X (drop k D)) e ∙ sym (joined D (length B.entries) k st.within h)) (next_instance B θ s m st.strict v.typed v.terms)

-- What is known of a block that has an instance where the k newest types end.
abbrev IsKnown : Signature → List LfType → List LfType → List Bool → List Bool → ℕ → Block → Type 0
IsKnown Σ C D t o k F = (says t (k - length F.entries) ≡ true) ⊎ (StandsDeep Σ (onto (drop k D) C) D k F × (says o (k - length F.entries) ≡ true))

more_known : (Σ : Signature) (C D : List LfType) (t o new more : List Bool) → ((k : ℕ) → says t k ≡ true → says new k ≡ true) → ((k : ℕ) → says o k ≡ true → says more k ≡ true) → (k : ℕ) (F : Block) → IsKnown Σ C D t o k F → IsKnown Σ C D new more k F
more_known Σ C D t o new more f g k F (inl e) = inl (f (k - length F.entries) e)
more_known Σ C D t o new more f g k F (inr (d, e)) = inr (d, g (k - length F.entries) e)

-- a place that was marked is no other one
not_marked : (old new : List Bool) (p k : ℕ) → ((k : ℕ) → says new k ≡ cond (same_number k p) true (says old k)) → p < k → says new k ≡ true → says old k ≡ true
not_marked old new p k q h e = ap (λ b. cond b true (says old k)) (sym (same_not k p (λ r. omega (arith, r, h)))) ∙ sym (q k) ∙ e

pub adds : (Σ : Signature) (B : Block) (G D : List LfType) (left : ℕ) (t o new : List Bool) → left ≤ length D → length new ≡ length t → ((k : ℕ) → says new k ≡ cond (same_number k (left - length B.entries)) true (says t k)) → Stands Σ G D left B → Adds Σ B G D left t o new o
adds Σ B G D left t o new h l q st W V C m g s a = record {
  size = l ∙ a.size;
  deep_size = a.deep_size;
  start = still_said t new place q (length D) a.start;
  sound = λ k e. sound_at k (same_number k place) refl (sym (q k) ∙ e);
  deep = a.deep;
  settled = λ k w e. still_said t new place q k (a.settled k w e);
  complete = λ k F n w b e f. complete_at k F n w b e f;
}
  where
    place : ℕ
    place = left - length B.entries

    before_left : place < left
    before_left = let x = st.entries in let y = st.within in let d : place ≡ left - length B.entries = refl in omega (arith, x, y, d)

    st' : Stands Σ (onto (drop left D) C) D left B
    st' = subst (λ X. Stands Σ X D left B) g st

    sound_at : (k : ℕ) (b : Bool) → same_number k place ≡ b → cond (same_number k place) true (says t k) ≡ true → IsSequence Σ W C (drop k D)
    sound_at k true e c = subst (λ n. IsSequence Σ W C (drop n D)) (sym (number_is k place e)) (one_more_sequence Σ W C D left B m h st' (a.sound left s))
    sound_at k false e c = a.sound k (ap (λ b. cond b true (says t k)) (sym e) ∙ c)

    before : (k : ℕ) → left ≤ k → says new k ≡ true → says t k ≡ true
    before k w e = not_marked t new place k q (let x = before_left in omega (arith, w, x)) e

    known : (k : ℕ) (F : Block) → IsKnown Σ C D t o k F → IsKnown Σ C D new o k F
    known = more_known Σ C D t o new o (still_said t new place q) (λ k e. e)

    complete_at : (k : ℕ) (F : Block) → Member F W → (left < k) ⊎ ((k ≡ left) × Member F (B ∷ V)) → k ≤ length D → says new k ≡ true → Stands Σ (onto (drop k D) C) D k F → IsKnown Σ C D new o k F
    complete_at k F n (inl w) b e f = known k F (a.complete k F n (inl w) b (before k (omega (arith, w)) e) f)
    complete_at k F n (inr (r, inr v)) b e f = known k F (a.complete k F n (inr (r, v)) b (before k (omega (arith, r)) e) f)
    complete_at k F n (inr (r, inl v)) b e f =
        let p : k - length F.entries ≡ place = ap₂ (λ i X. i - length X.entries) r v in
        inl (ap (says new) p ∙ q place ∙ ap (λ x. cond x true (says t place)) (same_self place))

-- a block that goes deep
pub adds_open : (Σ : Signature) (B : Block) (G D : List LfType) (left : ℕ) (t o more : List Bool) → left ≤ length D → length more ≡ length o → ((k : ℕ) → says more k ≡ cond (same_number k (left - length B.entries)) true (says o k)) → StandsDeep Σ G D left B → Adds Σ B G D left t o t more
adds_open Σ B G D left t o more h l q st W V C m g s a = record {
  size = a.size;
  deep_size = l ∙ a.deep_size;
  start = a.start;
  sound = a.sound;
  deep = λ k e. open_at k (same_number k place) refl (sym (q k) ∙ e);
  settled = λ k w e. a.settled k w (not_marked o more place k q (let x = before_left in omega (arith, w, x)) e);
  complete = λ k F n w b e f. complete_at k F n w b e f;
}
  where
    place : ℕ
    place = left - length B.entries

    before_left : place < left
    before_left = let x = st.entries in let y = st.within in let d : place ≡ left - length B.entries = refl in omega (arith, x, y, d)

    st' : StandsDeep Σ (onto (drop left D) C) D left B
    st' = subst (λ X. StandsDeep Σ X D left B) g st

    open_at : (k : ℕ) (b : Bool) → same_number k place ≡ b → cond (same_number k place) true (says o k) ≡ true → OpenAt Σ W C D k
    open_at k true e c = record { left = left; bounded = h; ends = a.sound left s; tried = B; is_one = m; deep = st'; place = number_is k place e }
    open_at k false e c = a.deep k (ap (λ b. cond b true (says o k)) (sym e) ∙ c)

    known : (k : ℕ) (F : Block) → IsKnown Σ C D t o k F → IsKnown Σ C D t more k F
    known = more_known Σ C D t o t more (λ k e. e) (still_said o more place q)

    complete_at : (k : ℕ) (F : Block) → Member F W → (left < k) ⊎ ((k ≡ left) × Member F (B ∷ V)) → k ≤ length D → says t k ≡ true → Stands Σ (onto (drop k D) C) D k F → IsKnown Σ C D t more k F
    complete_at k F n (inl w) b e f = known k F (a.complete k F n (inl w) b e f)
    complete_at k F n (inr (r, inr v)) b e f = known k F (a.complete k F n (inr (r, v)) b e f)
    complete_at k F n (inr (r, inl v)) b e f =
        let p : k - length F.entries ≡ place = ap₂ (λ i X. i - length X.entries) r v in
        let d : StandsDeep Σ (onto (drop k D) C) D k F = subst (λ X. StandsDeep Σ (onto (drop k D) C) D k X) (sym v) (subst (λ i. StandsDeep Σ (onto (drop i D) C) D i B) (sym r) st') in
        inr (d, ap (says more) p ∙ q place ∙ ap (λ x. cond x true (says o place)) (same_self place))

pub adds_nothing : (Σ : Signature) (B : Block) (G D : List LfType) (left : ℕ) (t o : List Bool) → (Stands Σ G D left B → ⊥) → Adds Σ B G D left t o t o
adds_nothing Σ B G D left t o never W V C m g s a = record { size = a.size; deep_size = a.deep_size; start = a.start; sound = a.sound; deep = a.deep; settled = a.settled; complete = λ k F n w b e f. by k F n w b e f }
  where
    by : (k : ℕ) (F : Block) → Member F W → (left < k) ⊎ ((k ≡ left) × Member F (B ∷ V)) → k ≤ length D → says t k ≡ true → Stands Σ (onto (drop k D) C) D k F → IsKnown Σ C D t o k F
    by k F n (inl w) b e f = a.complete k F n (inl w) b e f
    by k F n (inr (r, inr v)) b e f = a.complete k F n (inr (r, v)) b e f
    by k F n (inr (r, inl v)) b e f = absurd (never (subst (λ X. Stands Σ G D left X) v (subst (λ X. Stands Σ X D left F) (sym g) (subst (λ i. Stands Σ (onto (drop i D) C) D i F) r f))))

-- fewer blocks of the last place
pub fewer : (Σ : Signature) (W V U : List Block) (C D : List LfType) (left : ℕ) (t o : List Bool) → ((B : Block) → Member B U → Member B V) → TableAt Σ W V C D left t o → TableAt Σ W U C D left t o
fewer Σ W V U C D left t o h a = record { size = a.size; deep_size = a.deep_size; start = a.start; sound = a.sound; deep = a.deep; settled = a.settled; complete = λ k F n w b e f. a.complete k F n (by F k w) b e f }
  where
    by : (F : Block) (k : ℕ) → (left < k) ⊎ ((k ≡ left) × Member F U) → (left < k) ⊎ ((k ≡ left) × Member F V)
    by F k (inl w) = inl w
    by F k (inr (r, m)) = inr (r, h F m)

at_most : (left k : ℕ) → 0 < left → left - 1 < k → (left < k) ⊎ (k ≡ left)
at_most zero k h l = absurd (omega (arith, h))
at_most (suc left) zero h l = absurd (omega (arith, l))
at_most (suc zero) (suc zero) h l = inr refl
at_most (suc zero) (suc (suc k)) h l = inl (omega arith)
at_most (suc (suc left)) (suc k) h l = by (at_most (suc left) k (omega arith) (omega (arith, l)))
  where
    by : (suc left < k) ⊎ (k ≡ suc left) → (suc (suc left) < suc k) ⊎ (suc k ≡ suc (suc left))
    by (inl q) = inl (omega (arith, q))
    by (inr q) = inr (ap suc q)

-- the next place is settled, if the last one is
one_settled : (t o : List Bool) (left k : ℕ) → (left < k → says o k ≡ true → says t k ≡ true) → (says o left ≡ true → says t left ≡ true) → (left < k) ⊎ (k ≡ left) → says o k ≡ true → says t k ≡ true
one_settled t o left k f g (inl w) e = f w e
one_settled t o left k f g (inr r) e = ap (says t) r ∙ g (ap (says o) (sym r) ∙ e)

pub all_added : (Σ : Signature) (W : List Block) (C D : List LfType) (left : ℕ) (t o : List Bool) → 0 < left → (says o left ≡ true → says t left ≡ true) → TableAt Σ W W C D left t o → TableAt Σ W [] C D (left - 1) t o
all_added Σ W C D left t o z there a = record { size = a.size; deep_size = a.deep_size; start = a.start; sound = a.sound; deep = a.deep; settled = λ k w. one_settled t o left k (a.settled k) there (at_most left k z w); complete = λ k F n w b e f. a.complete k F n (by F k n w) b e f }
  where
    by : (F : Block) (k : ℕ) → Member F W → (left - 1 < k) ⊎ ((k ≡ left - 1) × Member F []) → (left < k) ⊎ ((k ≡ left) × Member F W)
    by F k n (inr (r, m)) = absurd m
    by F k n (inl w) = to (at_most left k z w)
      where
        to : (left < k) ⊎ (k ≡ left) → (left < k) ⊎ ((k ≡ left) × Member F W)
        to (inl q) = inl q
        to (inr q) = inr (q, n)

pub none_added : (Σ : Signature) (W : List Block) (G D : List LfType) (left : ℕ) (t o : List Bool) → 0 < left → says t left ≡ false → (says o left ≡ true → says t left ≡ true) → Extends Σ W G D left t o t o
none_added Σ W G D left t o z none there C g a = record { size = a.size; deep_size = a.deep_size; start = a.start; sound = a.sound; deep = a.deep; settled = λ k w. one_settled t o left k (a.settled k) there (at_most left k z w); complete = λ k F n w b e f. by k F n w b e f }
  where
    by : (k : ℕ) (F : Block) → Member F W → (left - 1 < k) ⊎ ((k ≡ left - 1) × Member F []) → k ≤ length D → says t k ≡ true → Stands Σ (onto (drop k D) C) D k F → IsKnown Σ C D t o k F
    by k F n (inr (r, m)) b e f = absurd m
    by k F n (inl w) b e f = to (at_most left k z w)
      where
        to : (left < k) ⊎ (k ≡ left) → IsKnown Σ C D t o k F
        to (inl q) = a.complete k F n (inl q) b e f
        to (inr q) = absurd (clash (sym e ∙ ap (says t) q ∙ none))

-- The whole table.
instance_size : (es : List LfType) (θ : ℕ → Image) → length (instance es θ) ≡ length es
instance_size [] θ = refl
instance_size (E ∷ es) θ = ap suc (instance_size es θ)

onto_take : (X Y : List LfType) → take (length X) (onto X Y) ≡ X
onto_take [] Y = refl
onto_take (A ∷ X) Y = ap (λ Z. A ∷ Z) (onto_take X Y)

onto_drop : (X Y : List LfType) → drop (length X) (onto X Y) ≡ Y
onto_drop [] Y = refl
onto_drop (A ∷ X) Y = onto_drop X Y

dropped_length : (D X Y : List LfType) (k : ℕ) → k ≤ length D → onto X Y ≡ drop k D → k + length X ≤ length D
dropped_length D [] Y k h e = omega (arith, h)
dropped_length [] (A ∷ X) Y zero h e = absurd cc
dropped_length [] (A ∷ X) Y (suc k) h e = absurd (omega (arith, h))
dropped_length (F ∷ D) (A ∷ X) Y zero h e = let q : onto X Y ≡ D = cc in let l = dropped_length D X Y 0 (omega arith) q in omega (arith, l)
dropped_length (F ∷ D) (A ∷ X) Y (suc k) h e = let l = dropped_length D (A ∷ X) Y k (omega (arith, h)) e in omega (arith, l)

-- Of the places from one on, past which none is left open.
module _ (Σ : Signature) (W : List Block) (C D : List LfType) (left from : ℕ) (t o : List Bool) (a : TableAt Σ W [] C D left t o) (past : left ≤ from) (settled : (k : ℕ) → from ≤ k → says o k ≡ true → says t k ≡ true) where
  says_one : (Y : List LfType) (B : Block) (θ : ℕ → Image) → Member B W → IsStrictBlock B → Values Σ everything B.some (onto Y C) θ → ((i : ℕ) (A : LfType) → TypeAt B.some i A → IsTerm (θ i)) → ((j : ℕ) → from ≤ j → j ≤ length D → Y ≡ drop j D → says t j ≡ true) → (k : ℕ) → from ≤ k → k ≤ length D → onto (instance B.entries θ) Y ≡ drop k D → says t k ≡ true
  says_one Y B θ m st v w ih k u h e = by B.entries refl
    where
      xs : List LfType
      xs = instance B.entries θ

      l : ℕ
      l = length xs

      size : l ≡ length B.entries
      size = instance_size B.entries θ

      room : k + l ≤ length D
      room = dropped_length D xs Y k h e

      rest : Y ≡ drop (k + l) D
      rest = sym (onto_drop xs Y) ∙ ap (drop l) e ∙ drop_more D k l

      older : says t (k + l) ≡ true
      older = ih (k + l) (omega (arith, u)) room rest

      back : k + l - length B.entries ≡ k
      back = let q = size in omega (arith, q)

      here : xs ≡ take (length B.entries) (drop (k + l - length B.entries) D)
      here = sym (onto_take xs Y) ∙ ap (take l) e ∙ ap (λ n. take n (drop k D)) size ∙ ap (λ n. take (length B.entries) (drop n D)) (sym back)

      stands : 0 < length B.entries → Stands Σ (onto (drop (k + l) D) C) D (k + l) B
      stands z = record { strict = st; entries = z; within = (let q = size in omega (arith, q)); is_instance = (θ, record { typed = subst (λ G. Values Σ everything B.some (onto G C) θ) rest v; terms = w }, here) }

      by : (es : List LfType) → es ≡ B.entries → says t k ≡ true
      by [] q = ap (says t) (let z : 0 ≡ length B.entries = ap length q in let y = size in let r : k ≡ k + l = omega (arith, z, y) in r) ∙ older
      by (E ∷ es) q =
          let z : length (E ∷ es) ≡ length B.entries = ap length q in
          let p : 0 < length B.entries = omega (arith, z) in
          told (a.complete (k + l) B m (inl (let y = size in omega (arith, y, p, u, past))) room older (stands p))
        where
          told : IsKnown Σ C D t o (k + l) B → says t k ≡ true
          told (inl x) = ap (says t) (sym back) ∙ x
          told (inr (d, x)) = settled k u (ap (says o) (sym back) ∙ x)

  pub says_all : (X : List LfType) → IsSequence Σ W C X → (k : ℕ) → from ≤ k → k ≤ length D → X ≡ drop k D → says t k ≡ true
  says_all [] no_instance k u h e = ap (says t) (all_dropped D k h (sym e)) ∙ a.start
  says_all X (next_instance {D = Y} B θ s m st v w) k u h e = says_one Y B θ m st v w (says_all Y s) k u h e

-- what is known of an answer in two ways
pub both_told : (r : Result Bool HeredFault) (P Q R : Bool → Type 0) → ((b : Bool) → P b → Q b → R b) → IfOk r P → IfOk r Q → IfOk r R
both_told (Ok b) P Q R f p q = f b p q
both_told (Err e) P Q R f p q = tt

-- a place that is settled is decided
pub table_decides : (Σ : Signature) (W : List Block) (C D : List LfType) (t o : List Bool) → TableAt Σ W [] C D 0 t o → (says o 0 ≡ true → says t 0 ≡ true) → (b : Bool) → b ≡ says t 0 → (b ≡ true) ↔ IsSequence Σ W C D
table_decides Σ W C D t o a there b e = (λ q. a.sound 0 (sym e ∙ q), λ s. e ∙ says_all Σ W C D 0 0 t o a (omega arith) all D s 0 (omega arith) (omega arith) refl)
  where
    all : (k : ℕ) → 0 ≤ k → says o k ≡ true → says t k ≡ true
    all zero h s = there s
    all (suc k) h s = a.settled (suc k) (omega arith) s

-- one that is left open isn't
pub goes_deep : (Σ : Signature) (W : List Block) (C D : List LfType) (left : ℕ) (t o : List Bool) → TableAt Σ W [] C D left t o → (says o left ≡ true) × (says t left ≡ false) → SequenceGoesDeep Σ W C D
goes_deep Σ W C D left t o a (e, f) = record { place = left; is_open = a.deep left e; alone = λ k B h s m st p. deep_at k B st p (a.complete k B m (inl (later k B st p)) h (before k B h s st p) st) }
  where
    later : (k : ℕ) (B : Block) → Stands Σ (onto (drop k D) C) D k B → k - length B.entries ≡ left → left < k
    later k B st p = let x = st.entries in let y = st.within in omega (arith, x, y, p)

    before : (k : ℕ) (B : Block) → k ≤ length D → IsSequence Σ W C (drop k D) → Stands Σ (onto (drop k D) C) D k B → k - length B.entries ≡ left → says t k ≡ true
    before k B h s st p = says_all Σ W C D left (suc left) t o a (omega arith) (λ j w. a.settled j (omega (arith, w))) (drop k D) s k (let x = later k B st p in omega (arith, x)) h refl

    deep_at : (k : ℕ) (B : Block) → Stands Σ (onto (drop k D) C) D k B → k - length B.entries ≡ left → IsKnown Σ C D t o k B → StandsDeep Σ (onto (drop k D) C) D k B
    deep_at k B st p (inl x) = absurd (clash (sym x ∙ ap (says t) p ∙ f))
    deep_at k B st p (inr (d, x)) = d

-- The context.
pub part_is_context : (Σ : Signature) (D C : List LfType) (k : ℕ) → IsContext Σ (onto D C) → IsContext Σ (onto (drop k D) C)
part_is_context Σ D C zero c = c
part_is_context Σ [] C (suc k) c = c
part_is_context Σ (A ∷ D) C (suc k) (c, t) = part_is_context Σ D C k c

pub whole_first : (D C : List LfType) → C ≡ onto (drop (length D) D) C
whole_first D C = ap (λ X. onto X C) (sym (drop_all D (length D) (omega arith)))

pub type_pushed : (D : List LfType) (p : ℕ) (A : LfType) (old new C : List LfType) → Some A ≡ slice_get D p → old ≡ onto (drop (suc p) D) C → new ≡ A ∷ old → new ≡ onto (drop p D) C
type_pushed D p A old new C g e f = f ∙ ap (λ X. A ∷ X) (e ∙ ap (λ n. onto (drop n D) C) (let q : suc p ≡ p + 1 = omega arith in q)) ∙ ap (λ X. onto X C) (sym (drop_first D p A g))

pub none_within : (D : List LfType) (p : ℕ) → None ≡ slice_get D p → p < length D → ⊥
none_within [] p e h = omega (arith, h)
none_within (A ∷ D) zero e h = cc
none_within (A ∷ D) (suc p) e h = none_within D p e (omega (arith, h))

pub taken_all : {X : Type 0} (xs : List X) (k : ℕ) → length xs ≤ k → take k xs ≡ xs
taken_all [] zero h = refl
taken_all [] (suc k) h = refl
taken_all (x ∷ xs) zero h = absurd (omega (arith, h))
taken_all (x ∷ xs) (suc k) h = ap (λ ys. x ∷ ys) (taken_all xs k (omega (arith, h)))

-- the context of a subgoal's hypotheses
pub local_is_context : (Σ : Signature) (C : List LfType) (A : LfType) (D : List LfType) → IsContext Σ (onto D C) → IsType Σ (onto D C) A → IsContext Σ (onto (binders D A) C)
local_is_context Σ C (pi A B) D c (t1, t2) = local_is_context Σ C B (A ∷ D) (c, t1) t2
local_is_context Σ C (atom a S) D c t = c
