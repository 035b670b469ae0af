-- The new numbers count the variables that are newer.
use Rattle.std.proofs.Common.{◌≡◌, ℕ, zero, suc, ◌+◌, ◌-◌, ◌<◌, ◌≤◌, List, [], ◌∷◌, ◌++◌, length, take, drop, get_or, length-append, refl, sym, ap, ◌∙◌, subst, arith, inl, inr}
use Rattle.std.specs.Prelude.{Bool, true, false, cond, ◌⊎◌}
use Rattle.std.proofs.lemmas.List.{take_all, take-append-le}
use Rattle.lf.specs.Syntax.{LfType, pi, atom}
use Rattle.lf.specs.Variables.{everything}
use Rattle.lf_unification.specs.Search.{occurs_type}
use Rattle.lf_checks.specs.Clause.{is_variable, with_newest}
use Rattle.lf_checks.specs.Parts.{count_below, past_first, shape}
use Rattle.tw_clause.specs.Numbers.{counts_from, renumber}

-- how many of these are variables
abbrev pub variables_in : List Bool → ℕ
variables_in [] = 0
variables_in (b ∷ bs) = cond b (suc (variables_in bs)) (variables_in bs)

-- the variables under quantifiers of this shape
abbrev pub scoped : (ℕ → Bool) → List Bool → ℕ → Bool
scoped V [] = V
scoped V (b ∷ bs) = scoped (with_newest b V) bs

pub scoped_shape : (V : ℕ → Bool) (A : LfType) → is_variable V A ≡ scoped V (shape A)
scoped_shape V (pi A B) = scoped_shape (with_newest (occurs_type zero B) V) B
scoped_shape V (atom a S) = refl

pub scoped_more : (V : ℕ → Bool) (bs : List Bool) (b : Bool) → scoped V (bs ++ b ∷ []) ≡ with_newest b (scoped V bs)
scoped_more V [] b = refl
scoped_more V (a ∷ bs) b = scoped_more (with_newest a V) bs b

-- the counts
pub counted : (m : ℕ) (bs : List Bool) (k : ℕ) → k ≤ length bs → get_or (counts_from m bs) k 0 ≡ m + variables_in (take k bs)
counted m [] zero h = omega arith
counted m [] (suc k) h = absurd (omega (arith, h))
counted m (b ∷ bs) zero h = omega arith
counted m (b ∷ bs) (suc k) h = counted (cond b (suc m) m) bs k (omega (arith, h)) ∙ more b (variables_in (take k bs))
  where
    more : (b : Bool) (n : ℕ) → cond b (suc m) m + n ≡ m + cond b (suc n) n
    more true n = omega arith
    more false n = refl

pub counted_prefix : (done rest : List Bool) (k : ℕ) → k ≤ length done → get_or (counts_from 0 (done ++ rest)) k 0 ≡ get_or (counts_from 0 done) k 0
counted_prefix done rest k h =
    let l = length-append done rest in
    counted 0 (done ++ rest) k (omega (arith, h, l)) ∙ ap (λ xs. 0 + variables_in xs) (take-append-le k done rest h) ∙ sym (counted 0 done k h)

-- a list is its first elements and the others
split : (k : ℕ) (bs : List Bool) → variables_in (take k bs) + variables_in (drop k bs) ≡ variables_in bs
split zero [] = refl
split zero (b ∷ bs) = omega arith
split (suc k) [] = refl
split (suc k) (b ∷ bs) = by b (split k bs)
  where
    by : (b : Bool) → variables_in (take k bs) + variables_in (drop k bs) ≡ variables_in bs → cond b (suc (variables_in (take k bs))) (variables_in (take k bs)) + variables_in (drop k bs) ≡ cond b (suc (variables_in bs)) (variables_in bs)
    by true e = omega (arith, e)
    by false e = e

two_counted : (a b : Bool) (n : ℕ) → cond b (suc (cond a (suc n) n)) (cond a (suc n) n) ≡ cond a (suc (cond b (suc n) n)) (cond b (suc n) n)
two_counted true true n = refl
two_counted true false n = refl
two_counted false true n = refl
two_counted false false n = refl

-- the first number counted on its own
count_first : (W : ℕ → Bool) (d : ℕ) → count_below W (suc d) ≡ cond (W zero) (suc (count_below (past_first W) d)) (count_below (past_first W) d)
count_first W zero = refl
count_first W (suc d) = ap (λ n. cond (W (suc d)) (suc n) n) (count_first W d) ∙ two_counted (W zero) (W (suc d)) (count_below (past_first W) d)

all_counted : (i : ℕ) → count_below everything i ≡ i
all_counted zero = refl
all_counted (suc i) = ap suc (all_counted i)

-- the variables that are newer than one outside
count_outside : (V : ℕ → Bool) (bs : List Bool) (j : ℕ) → count_below (scoped V bs) (j + length bs) ≡ variables_in bs + count_below V j
count_outside V [] j = ap (count_below V) (let e : j + zero ≡ j = omega arith in e) ∙ (let f : count_below V j ≡ 0 + count_below V j = omega arith in f)
count_outside V (b ∷ bs) j =
    ap (count_below (scoped (with_newest b V) bs)) (let e : j + suc (length bs) ≡ suc j + length bs = omega arith in e)
    ∙ count_outside (with_newest b V) bs (suc j)
    ∙ ap (λ n. variables_in bs + n) (count_first (with_newest b V) j)
    ∙ by b (count_below V j)
  where
    by : (b : Bool) (n : ℕ) → variables_in bs + cond b (suc n) n ≡ cond b (suc (variables_in bs)) (variables_in bs) + n
    by true n = omega arith
    by false n = refl

last_or : (i n : ℕ) → i ≤ suc n → (i ≤ n) ⊎ (i ≡ suc n)
last_or zero n h = inl (omega arith)
last_or (suc i) zero h = inr (omega (arith, h))
last_or (suc i) (suc n) h = elim (last_or i n (omega (arith, h))) [ inl l ↦ inl (omega (arith, l)) | inr e ↦ inr (ap suc e) ]

-- and than one inside
count_inside : (V : ℕ → Bool) (bs : List Bool) (i : ℕ) → i ≤ length bs → count_below (scoped V bs) i ≡ variables_in (drop (length bs - i) bs)
count_inside V [] zero h = refl
count_inside V [] (suc i) h = absurd (omega (arith, h))
count_inside V (b ∷ bs) i h = elim (last_or i (length bs) h) [ inl l ↦ count_inside (with_newest b V) bs i l ∙ further l | inr e ↦ subst (λ k. count_below (scoped V (b ∷ bs)) k ≡ variables_in (drop (suc (length bs) - k) (b ∷ bs))) (sym e) all ]
  where
    further : i ≤ length bs → variables_in (drop (length bs - i) bs) ≡ variables_in (drop (suc (length bs) - i) (b ∷ bs))
    further l = ap (λ k. variables_in (drop k (b ∷ bs))) (let e : suc (length bs - i) ≡ suc (length bs) - i = omega (arith, l) in e)

    all : count_below (scoped V (b ∷ bs)) (suc (length bs)) ≡ variables_in (drop (suc (length bs) - suc (length bs)) (b ∷ bs))
    all =
        ap (count_below (scoped V (b ∷ bs))) (let e : suc (length bs) ≡ 0 + suc (length bs) = omega arith in e)
        ∙ count_outside V (b ∷ bs) 0
        ∙ (let e : variables_in (b ∷ bs) + 0 ≡ variables_in (b ∷ bs) = omega arith in e)
        ∙ ap (λ k. variables_in (drop k (b ∷ bs))) (let e : zero ≡ suc (length bs) - suc (length bs) = omega arith in e)

either_way : (m n : ℕ) → (m ≤ n) ⊎ (n < m)
either_way zero n = inl (omega arith)
either_way (suc m) zero = inr (omega arith)
either_way (suc m) (suc n) = elim (either_way m n) [ inl l ↦ inl (omega (arith, l)) | inr l ↦ inr (omega (arith, l)) ]

-- Inside l of the quantifiers, e fewer than all: the new number is the one in the whole scope.
pub number_in_scope : (bs : List Bool) (l e i : ℕ) → l + e ≡ length bs → renumber (counts_from 0 bs) l (get_or (counts_from 0 bs) (length bs) 0) i ≡ count_below (scoped everything bs) (i + e)
number_in_scope bs l e i q = elim (either_way i l) [ inl h ↦ inside h | inr h ↦ past h ]
  where
    total : get_or (counts_from 0 bs) (length bs) 0 ≡ variables_in bs
    total = counted 0 bs (length bs) (omega arith) ∙ ap (λ xs. 0 + variables_in xs) (take_all (length bs) bs (omega arith)) ∙ (let f : 0 + variables_in bs ≡ variables_in bs = omega arith in f)

    inside : i ≤ l → renumber (counts_from 0 bs) l (get_or (counts_from 0 bs) (length bs) 0) i ≡ count_below (scoped everything bs) (i + e)
    inside h =
        let older = counted 0 bs (l - i) (omega (arith, q)) in
        let parts = split (l - i) bs in
        let place : length bs - (i + e) ≡ l - i = omega (arith, q, h) in
        let newer : count_below (scoped everything bs) (i + e) ≡ variables_in (drop (l - i) bs) = count_inside everything bs (i + e) (omega (arith, q, h)) ∙ ap (λ k. variables_in (drop k bs)) place in
        omega (arith, older, parts, newer, total, h)

    past : l < i → renumber (counts_from 0 bs) l (get_or (counts_from 0 bs) (length bs) 0) i ≡ count_below (scoped everything bs) (i + e)
    past h =
        let none : get_or (counts_from 0 bs) (l - i) 0 ≡ 0 = ap (λ k. get_or (counts_from 0 bs) k 0) (let z : l - i ≡ zero = omega (arith, h) in z) ∙ counted 0 bs zero (omega arith) ∙ start bs in
        let outside = count_outside everything bs (i - l) in
        let all = all_counted (i - l) in
        let place : count_below (scoped everything bs) (i + e) ≡ count_below (scoped everything bs) (i - l + length bs) = ap (count_below (scoped everything bs)) (let z : i + e ≡ i - l + length bs = omega (arith, q, h) in z) in
        omega (arith, none, outside, all, place, total, h)
      where
        start : (xs : List Bool) → 0 + variables_in (take zero xs) ≡ 0
        start [] = refl
        start (x ∷ xs) = refl

-- and inside the quantifiers so far, in the scope of these alone
pub number_so_far : (done rest : List Bool) (i : ℕ) → renumber (counts_from 0 (done ++ rest)) (length done) (get_or (counts_from 0 (done ++ rest)) (length done) 0) i ≡ count_below (scoped everything done) i
number_so_far done rest i =
    let total = counted_prefix done rest (length done) (omega arith) in
    let older = counted_prefix done rest (length done - i) (omega arith) in
    let alone = number_in_scope done (length done) 0 i (omega arith) in
    let place : count_below (scoped everything done) (i + 0) ≡ count_below (scoped everything done) i = ap (count_below (scoped everything done)) (let z : i + 0 ≡ i = omega arith in z) in
    omega (arith, total, older, alone, place)
