-- The list of the subgoals of a clause, by their numbers.
use Rattle.std.proofs.Common.{◌≡◌, ℕ, zero, suc, ◌+◌, ◌<◌, ◌≤◌, List, [], ◌∷◌, ◌++◌, Bool, true, false, Some, length, length-append, take, refl, sym, ap, ◌∙◌, subst, arith, inl, inr}
use Rattle.std.specs.Prelude.{cond, not, slice_get, ◌⊎◌}
use Rattle.lf.specs.AtOnce.{shift_by}
use Rattle.lf.specs.Entries.{quantifiers}
use Rattle.lf.specs.Subordination.{Member}
use Rattle.lf.specs.Syntax.{LfType, pi, atom, rename_type}
use Rattle.lf.specs.Variables.{binders, everything}
use Rattle.lf_unification.specs.Search.{occurs_type}
use Rattle.lf_checks.specs.Clause.{Clause, IsSubgoal, is_variable, scope, with_newest}
use Rattle.lf_checks.specs.Faults.{EachPasses, FirstSubgoal}
use Rattle.lf_checks.specs.Parts.{count_below, subgoal_at, type_at}
use Rattle.lf_checks.proofs.Numbered.{subgoal_inside, type_both}
use Rattle.lf_checks.proofs.PartTypes.{counted_number}
use Rattle.tw_clause.proofs.Walks.{at_quantifier, moved, type_past}
use Rattle.tw_order.specs.Goals.{goal_here, goals_of}

nothing_behind : {A : Type 0} (xs : List A) → xs ++ [] ≡ xs
nothing_behind [] = refl
nothing_behind (x ∷ xs) = ap (λ ys. x ∷ ys) (nothing_behind xs)

below_or : (i n : ℕ) → i < suc n → (i < n) ⊎ (i ≡ n)
below_or zero zero h = inr refl
below_or zero (suc n) h = inl (omega arith)
below_or (suc i) zero h = absurd (omega (arith, h))
below_or (suc i) (suc n) h = elim (below_or i n (omega (arith, h))) [ inl l ↦ inl (omega (arith, l)) | inr e ↦ inr (ap suc e) ]

-- Places of joined lists.
left_place : {A : Type 0} (xs ys : List A) (k : ℕ) (x : A) → slice_get xs k ≡ Some x → slice_get (xs ++ ys) k ≡ Some x
left_place [] ys k x e = absurd cc
left_place (y ∷ xs) ys zero x e = e
left_place (y ∷ xs) ys (suc k) x e = left_place xs ys k x e

last_place : {A : Type 0} (xs : List A) (x : A) → slice_get (xs ++ x ∷ []) (length xs) ≡ Some x
last_place [] x = refl
last_place (y ∷ xs) x = last_place xs x

join_place : (gs : List LfType) (o : Bool) (X Y : LfType) (k : ℕ) → slice_get (gs ++ goal_here o X) k ≡ Some Y → (slice_get gs k ≡ Some Y) ⊎ ((o ≡ false) × (X ≡ Y) × (k ≡ length gs))
join_place [] true X Y k e = absurd cc
join_place [] false X Y zero e = inr (refl, cc, refl)
join_place [] false X Y (suc k) e = absurd cc
join_place (g ∷ gs) o X Y zero e = inl e
join_place (g ∷ gs) o X Y (suc k) e = elim (join_place gs o X Y k e) [ inl f ↦ inl f | inr (a, b, d) ↦ inr (a, b, ap suc d) ]

-- The last quantifier of a type has the first index.
last_variable : (B : LfType) (W : ℕ → Bool) → is_variable W B (quantifiers B) ≡ W zero
last_variable B W = ap (is_variable W B) (let q : quantifiers B ≡ quantifiers B + zero = omega arith in q) ∙ at_quantifier B W zero

last_type : (A B : LfType) (G : List LfType) → type_at (binders (A ∷ G) B) (quantifiers B) ≡ Some (rename_type (shift_by (suc (quantifiers B))) A)
last_type A B G = ap (type_at (binders (A ∷ G) B)) (let q : quantifiers B ≡ quantifiers B + zero = omega arith in q) ∙ type_past B (A ∷ G) zero A refl ∙ ap Some (moved (quantifiers B) A)

abbrev goals_below : (ℕ → Bool) → LfType → ℕ → ℕ
goals_below V T i = count_below (λ j. not (is_variable V T j)) i

one_counted : (o : Bool) (n : ℕ) (X : LfType) (gs : List LfType) → n ≡ length gs → cond (not o) (suc n) n ≡ length (gs ++ goal_here o X)
one_counted true n X gs e = e ∙ ap length (sym (nothing_behind gs))
one_counted false n X gs e = let l = length-append gs (X ∷ []) in omega (arith, l, e)

all_counted : (T : LfType) (V : ℕ → Bool) → goals_below V T (quantifiers T) ≡ length (goals_of T)
all_counted (atom a S) V = refl
all_counted (pi A B) V =
    ap (λ b. cond (not b) (suc n) n) (last_variable B W) ∙ one_counted (occurs_type zero B) n (rename_type (shift_by (suc (quantifiers B))) A) (goals_of B) (all_counted B W)
  where
    W : ℕ → Bool
    W = with_newest (occurs_type zero B) V

    n : ℕ
    n = goals_below W B (quantifiers B)

one_some : {A : Type 0} {x y : A} → Some x ≡ Some y → x ≡ y
one_some e = cc

-- what stands in the list is a subgoal, and stands at its number
pub goal_found : (T : LfType) (V : ℕ → Bool) (G : List LfType) (k : ℕ) (Y : LfType) → slice_get (goals_of T) k ≡ Some Y → (i : ℕ) × (i < quantifiers T) × (is_variable V T i ≡ false) × (type_at (binders G T) i ≡ Some Y) × (goals_below V T i ≡ k)
goal_found (atom a S) V G k Y e = absurd cc
goal_found (pi A B) V G k Y e = by (join_place (goals_of B) (occurs_type zero B) (rename_type (shift_by (suc (quantifiers B))) A) Y k e) (goal_found B (with_newest (occurs_type zero B) V) (A ∷ G) k Y) (all_counted B (with_newest (occurs_type zero B) V))
  where
    by : (slice_get (goals_of B) k ≡ Some Y) ⊎ ((occurs_type zero B ≡ false) × (rename_type (shift_by (suc (quantifiers B))) A ≡ Y) × (k ≡ length (goals_of B))) → (slice_get (goals_of B) k ≡ Some Y → (i : ℕ) × (i < quantifiers B) × (is_variable (with_newest (occurs_type zero B) V) B i ≡ false) × (type_at (binders (A ∷ G) B) i ≡ Some Y) × (goals_below (with_newest (occurs_type zero B) V) B i ≡ k)) → goals_below (with_newest (occurs_type zero B) V) B (quantifiers B) ≡ length (goals_of B) → (i : ℕ) × (i < quantifiers (pi A B)) × (is_variable V (pi A B) i ≡ false) × (type_at (binders G (pi A B)) i ≡ Some Y) × (goals_below V (pi A B) i ≡ k)
    by (inl f) g n = let (i, l, v, t, c) = g f in (i, omega (arith, l), v, t, c)
    by (inr (o, x, d)) g n = (quantifiers B, omega arith, last_variable B (with_newest (occurs_type zero B) V) ∙ o, last_type A B G ∙ ap Some x, n ∙ sym d)

-- and each subgoal stands in it
pub goal_stands : (T : LfType) (V : ℕ → Bool) (G : List LfType) (i : ℕ) (Y : LfType) → i < quantifiers T → is_variable V T i ≡ false → type_at (binders G T) i ≡ Some Y → slice_get (goals_of T) (goals_below V T i) ≡ Some Y
goal_stands (atom a S) V G i Y l v t = absurd (omega (arith, l))
goal_stands (pi A B) V G i Y l v t = by (below_or i (quantifiers B) l) (goal_stands B (with_newest (occurs_type zero B) V) (A ∷ G) i Y) (all_counted B (with_newest (occurs_type zero B) V))
  where
    W : ℕ → Bool
    W = with_newest (occurs_type zero B) V

    X : LfType
    X = rename_type (shift_by (suc (quantifiers B))) A

    by : (i < quantifiers B) ⊎ (i ≡ quantifiers B) → (i < quantifiers B → is_variable (with_newest (occurs_type zero B) V) B i ≡ false → type_at (binders (A ∷ G) B) i ≡ Some Y → slice_get (goals_of B) (goals_below (with_newest (occurs_type zero B) V) B i) ≡ Some Y) → goals_below (with_newest (occurs_type zero B) V) B (quantifiers B) ≡ length (goals_of B) → slice_get (goals_of (pi A B)) (goals_below V (pi A B) i) ≡ Some Y
    by (inl m) g n = left_place (goals_of B) (goal_here (occurs_type zero B) X) (goals_below W B i) Y (g m v t)
    by (inr e) g n =
        let o : occurs_type zero B ≡ false = sym (last_variable B W) ∙ ap (is_variable W B) (sym e) ∙ v in
        let x : X ≡ Y = one_some (sym (last_type A B G) ∙ ap (type_at (binders (A ∷ G) B)) (sym e) ∙ t) in
        ap (slice_get (goals_of (pi A B))) (ap (goals_below W B) e ∙ n) ∙ ap (λ b. slice_get (goals_of B ++ goal_here b X) (length (goals_of B))) o ∙ last_place (goals_of B) X ∙ ap Some x

-- a later subgoal has a greater number
count_grows : (f : ℕ → Bool) (j : ℕ) → count_below f j ≤ count_below f (suc j)
count_grows f j = by (f j)
  where
    by : (b : Bool) → count_below f j ≤ cond b (suc (count_below f j)) (count_below f j)
    by true = omega arith
    by false = omega arith

count_rises : (f : ℕ → Bool) (i j : ℕ) → i < j → f i ≡ true → count_below f i < count_below f j
count_rises f i zero l e = absurd (omega (arith, l))
count_rises f i (suc j) l e = by (below_or i j l) (count_rises f i j)
  where
    by : (i < j) ⊎ (i ≡ j) → (i < j → f i ≡ true → count_below f i < count_below f j) → count_below f i < count_below f (suc j)
    by (inl m) g = let h = g m e in let k = count_grows f j in omega (arith, h, k)
    by (inr q) g = let r : count_below f (suc j) ≡ suc (count_below f j) = ap (λ b. cond b (suc (count_below f j)) (count_below f j)) (sym (ap f q) ∙ e) in let s = ap (count_below f) q in omega (arith, r, s)

-- Members of the list by their places.
place_of_member : {A : Type 0} (xs : List A) (x : A) → Member x xs → (k : ℕ) × (slice_get xs k ≡ Some x)
place_of_member [] x m = absurd m
place_of_member (y ∷ xs) x (inl e) = (zero, ap Some (sym e))
place_of_member (y ∷ xs) x (inr m) = let (k, e) = place_of_member xs x m in (suc k, e)

member_of_place : {A : Type 0} (xs : List A) (k : ℕ) (x : A) → slice_get xs k ≡ Some x → Member x xs
member_of_place [] k x e = absurd cc
member_of_place (y ∷ xs) zero x e = inl (one_some (sym e))
member_of_place (y ∷ xs) (suc k) x e = inr (member_of_place xs k x e)

taken_place : {A : Type 0} (xs : List A) (n k : ℕ) (x : A) → k < n → slice_get xs k ≡ Some x → Member x (take n xs)
taken_place xs zero k x l e = absurd (omega (arith, l))
taken_place [] (suc n) k x l e = absurd cc
taken_place (y ∷ xs) (suc n) zero x l e = inl (one_some (sym e))
taken_place (y ∷ xs) (suc n) (suc k) x l e = inr (taken_place xs n k x (omega (arith, l)) e)

module _ (c : Clause) where
  subgoal_place : (i : ℕ) (A : LfType) → IsSubgoal c i A → slice_get (goals_of c.type) (goals_below everything c.type i) ≡ Some A
  subgoal_place i A s = goal_stands c.type everything c.outer i A (subgoal_inside c i s.0) s.0 ((type_both (scope c) i A).0 s.1)

  pub subgoal_listed : (i : ℕ) (A : LfType) → IsSubgoal c i A → Member A (goals_of c.type)
  subgoal_listed i A s = member_of_place (goals_of c.type) (goals_below everything c.type i) A (subgoal_place i A s)

  pub listed_subgoal : (A : LfType) → Member A (goals_of c.type) → (i : ℕ) × IsSubgoal c i A
  listed_subgoal A m =
      let (k, e) = place_of_member (goals_of c.type) A m in
      let (i, l, v, t, n) = goal_found c.type everything c.outer k A e in
      (i, (v, (type_both (scope c) i A).1 t))

  module _ (P : LfType → Type 0) where
    pub each_passes : ((A : LfType) → Member A (goals_of c.type) → P A) → EachPasses P c
    each_passes all i A s = all A (subgoal_listed i A s)

    pub first_subgoal : (k : ℕ) (A : LfType) → slice_get (goals_of c.type) k ≡ Some A → ((B : LfType) → Member B (take k (goals_of c.type)) → P B) → (P A → ⊥) → FirstSubgoal P c (suc k)
    first_subgoal k A e all n =
        let (i, l, v, t, q) = goal_found c.type everything c.outer k A e in
        let s : IsSubgoal c i A = (v, (type_both (scope c) i A).1 t) in
        record {
          index = i;
          subgoal = A;
          stands = ap (λ m. subgoal_at c (suc m)) (sym q) ∙ counted_number c i A s;
          is_subgoal = s;
          before = λ j B l s. all B (taken_place (goals_of c.type) k (goals_below everything c.type j) B (subst (λ m. goals_below everything c.type j < m) q (count_rises (λ h. not (is_variable everything c.type h)) j i l (ap not s.0))) (subgoal_place j B s));
          fails = n;
        }
