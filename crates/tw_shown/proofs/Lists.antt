-- Lists of variables that are shown.
use Rattle.std.proofs.Common.{◌≡◌, ℕ, zero, suc, ◌+◌, ◌-◌, ◌<◌, ◌≤◌, List, [], ◌∷◌, ◌++◌, length, get_or, set, drop, replicate, Bool, true, false, ◌||◌, eqb, refl, sym, ap, ap₂, ◌∙◌, ⊎_elim, arith, append_assoc}
use Rattle.std.proofs.lemmas.Bool.{cases_eq, eq-eqb, ne_eqb}
use Rattle.std.proofs.lemmas.List.{append-nil, at_drop_more, at_drop_all, length-set, length-replicate, get_or-replicate, get_or-set_same, get_or-set_other}
use Rattle.tw_shown.specs.Naming.{MarksShown}
use Rattle.tw_shown.specs.Shown.{outer, outside, is_shown}

outer_append : (is js : List ℕ) → outer (is ++ js) ≡ outer is ++ outer js
outer_append [] js = refl
outer_append (zero ∷ is) js = outer_append is js
outer_append (suc i ∷ is) js = ap (λ ks. i ∷ ks) (outer_append is js)

pub outside_append : (n : ℕ) (is js : List ℕ) → outside n (is ++ js) ≡ outside n is ++ outside n js
outside_append zero is js = refl
outside_append (suc n) is js = ap (outside n) (outer_append is js) ∙ outside_append n (outer is) (outer js)

pub outside_nothing : (n : ℕ) → outside n [] ≡ []
outside_nothing zero = refl
outside_nothing (suc n) = outside_nothing n

-- one variable
pub bound_inside : (n i : ℕ) → i < n → outside n (i ∷ []) ≡ []
bound_inside zero i h = absurd (omega (arith, h))
bound_inside (suc n) zero h = outside_nothing n
bound_inside (suc n) (suc i) h = bound_inside n i (omega (arith, h))

pub bound_outside : (n i : ℕ) → n ≤ i → outside n (i ∷ []) ≡ (i - n) ∷ []
bound_outside zero i h = let e : i ≡ i - 0 = omega arith in ap (λ j. j ∷ []) e
bound_outside (suc n) zero h = absurd (omega (arith, h))
bound_outside (suc n) (suc i) h = let e : i - n ≡ suc i - suc n = omega arith in bound_outside n i (omega (arith, h)) ∙ ap (λ j. j ∷ []) e

-- one more variable of a list, which is left out or not
pub left_out : (n k : ℕ) (shown outs whole : List ℕ) → k < length shown → get_or shown k 0 < n → outs ++ outside n (drop k shown) ≡ whole → outs ++ outside n (drop (k + 1) shown) ≡ whole
left_out n k shown outs whole h l w =
    let x = get_or shown k 0 in
    let rest = drop (k + 1) shown in
    let d : outside n (drop k shown) ≡ outside n rest =
    at_drop_more (outside n) shown k 0 h ∙ outside_append n (x ∷ []) rest ∙ ap (λ is. is ++ outside n rest) (bound_inside n x l) in
    sym (ap (λ is. outs ++ is) d) ∙ w

pub taken_in : (n k : ℕ) (shown outs new whole : List ℕ) → k < length shown → n ≤ get_or shown k 0 → new ≡ outs ++ (get_or shown k 0 - n) ∷ [] → outs ++ outside n (drop k shown) ≡ whole → new ++ outside n (drop (k + 1) shown) ≡ whole
taken_in n k shown outs new whole h l p w =
    let x = get_or shown k 0 in
    let rest = drop (k + 1) shown in
    let d : outside n (drop k shown) ≡ (x - n) ∷ outside n rest =
    at_drop_more (outside n) shown k 0 h ∙ outside_append n (x ∷ []) rest ∙ ap (λ is. is ++ outside n rest) (bound_outside n x l) in
    ap (λ is. is ++ outside n rest) p ∙ append_assoc outs ((x - n) ∷ []) (outside n rest) ∙ sym (ap (λ is. outs ++ is) d) ∙ w

pub all_taken_in : (n k : ℕ) (shown outs whole : List ℕ) → length shown ≤ k → outs ++ outside n (drop k shown) ≡ whole → outs ≡ whole
all_taken_in n k shown outs whole h w = sym (append-nil outs) ∙ sym (ap (λ is. outs ++ is) (at_drop_all (outside n) shown k h ∙ outside_nothing n)) ∙ w

-- seen from outside one binder, or from outside many
pub outer_outside : (n : ℕ) (is : List ℕ) → outer (outside n is) ≡ outside (suc n) is
outer_outside zero is = refl
outer_outside (suc n) is = outer_outside n (outer is)

same_suc : (j i : ℕ) → eqb j i ≡ eqb (suc j) (suc i)
same_suc j i = ⊎_elim (λ e. eq-eqb j i e ∙ sym (eq-eqb (suc j) (suc i) (ap suc e))) (λ n. ne_eqb j i n ∙ sym (ne_eqb (suc j) (suc i) (λ e. n (omega (arith, e))))) (cases_eq j i)

shown_outer : (i : ℕ) (is : List ℕ) → is_shown i (outer is) ≡ is_shown (suc i) is
shown_outer i [] = refl
shown_outer i (zero ∷ is) = shown_outer i is ∙ sym (ap (λ b. b || is_shown (suc i) is) (ne_eqb zero (suc i) (λ e. omega (arith, e))))
shown_outer i (suc j ∷ is) = ap₂ (λ b c. b || c) (same_suc j i) (shown_outer i is)

pub shown_outside : (n : ℕ) (is : List ℕ) → is_shown zero (outside n is) ≡ is_shown n is
shown_outside zero is = refl
shown_outside (suc n) is = shown_outside n (outer is) ∙ shown_outer n is

or_false : (b : Bool) → (b || false) ≡ b
or_false true = refl
or_false false = refl

-- The marks so far, where the variables from number k on are left.
pub record Marked (n k : ℕ) (shown : List ℕ) (marks : List Bool) : Type 0 where
  pub count : length marks ≡ n
  pub each : (i : ℕ) → i < n → (get_or marks i false || is_shown i (drop k shown)) ≡ is_shown i shown

pub none_marked : (n : ℕ) (shown : List ℕ) (marks : List Bool) → marks ≡ replicate n false → Marked n 0 shown marks
none_marked n shown marks e = record {
  count = ap length e ∙ length-replicate n false;
  each = λ i h. ap (λ b. b || is_shown i shown) (ap (λ ms. get_or ms i false) e ∙ get_or-replicate n i false false h);
}

left : (k x i : ℕ) (shown : List ℕ) → k < length shown → x ≡ get_or shown k x → is_shown i (drop k shown) ≡ (eqb x i || is_shown i (drop (k + 1) shown))
left k x i shown h e = at_drop_more (is_shown i) shown k x h ∙ ap (λ y. eqb y i || is_shown i (drop (k + 1) shown)) (sym e)

pub passed_by : (n k x : ℕ) (shown : List ℕ) (marks : List Bool) → k < length shown → x ≡ get_or shown k x → n ≤ x → Marked n k shown marks → Marked n (k + 1) shown marks
passed_by n k x shown marks h e l m = record {
  count = m.count;
  each = λ i j. sym (ap (λ b. get_or marks i false || b) (left k x i shown h e ∙ ap (λ b. b || is_shown i (drop (k + 1) shown)) (ne_eqb x i (λ q. omega (arith, q, l, j))))) ∙ m.each i j;
}

one_mark : (n x i : ℕ) (marks : List Bool) (rest : Bool) → length marks ≡ n → i < n → (get_or (set marks x true) i false || rest) ≡ (get_or marks i false || (eqb x i || rest))
one_mark n x i marks rest c j = ⊎_elim
    (λ e. ap (λ b. b || rest) (ap (λ y. get_or (set marks y true) i false) e ∙ get_or-set_same marks i true false (omega (arith, c, j))) ∙ sym (ap (λ b. get_or marks i false || (b || rest)) (eq-eqb x i e) ∙ or_true (get_or marks i false)))
    (λ d. ap (λ b. b || rest) (get_or-set_other marks x i true false (λ q. d (sym q))) ∙ sym (ap (λ b. get_or marks i false || (b || rest)) (ne_eqb x i d)))
    (cases_eq x i)
  where
    or_true : (b : Bool) → (b || true) ≡ true
    or_true true = refl
    or_true false = refl

pub one_marked : (n k x : ℕ) (shown : List ℕ) (marks new : List Bool) → k < length shown → x ≡ get_or shown k x → new ≡ set marks x true → Marked n k shown marks → Marked n (k + 1) shown new
one_marked n k x shown marks new h e s m = record {
  count = ap length s ∙ length-set marks x true ∙ m.count;
  each = λ i j. ap (λ ms. get_or ms i false || is_shown i (drop (k + 1) shown)) s ∙ one_mark n x i marks (is_shown i (drop (k + 1) shown)) m.count j ∙ sym (ap (λ b. get_or marks i false || b) (left k x i shown h e)) ∙ m.each i j;
}

pub all_marked : (n k : ℕ) (shown : List ℕ) (marks : List Bool) → length shown ≤ k → Marked n k shown marks → MarksShown n shown marks
all_marked n k shown marks h m = record {
  count = m.count;
  each = λ i j. sym (or_false (get_or marks i false)) ∙ sym (ap (λ b. get_or marks i false || b) (at_drop_all (is_shown i) shown k h)) ∙ m.each i j;
}
