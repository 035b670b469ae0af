-- The subgoals of a clause by their numbers, and the variables that are ground before each.
use Rattle.std.proofs.Common.{◌≡◌, ℕ, zero, suc, ◌+◌, ◌<◌, ◌≤◌, List, [], ◌∷◌, length, refl, sym, ap, ◌∙◌, subst, arith, inl, inr, true≢false}
use Rattle.std.specs.Prelude.{Bool, true, false, cond, Option, Some, None, ◌⊎◌, ◌↔◌}
use Rattle.lf.specs.Syntax.{LfType, pi, atom, weaken, rename_type}
use Rattle.lf.specs.Typing.{TypeAt}
use Rattle.lf.specs.Entries.{quantifiers}
use Rattle.lf.specs.Variables.{binders, everything}
use Rattle.lf_unification.specs.Search.{occurs_type}
use Rattle.lf.proofs.Decidability.{variable_type_unique}
use Rattle.lf_checks.specs.Clause.{Clause, scope, variables, is_variable, with_newest, IsSubgoal}
use Rattle.lf_checks.specs.Marks.{Mark}
use Rattle.lf_checks.specs.Ground.{EachSubgoal, ground_after, ground_from}
use Rattle.lf_checks.specs.GroundUntil.{ground_past, ground_until, ground_at_end}
use Rattle.lf_checks.specs.Parts.{type_at, weakened, subgoals_among, subgoals, numbered, subgoal_at, with_subgoal, types_at, variable_number, parts}
use Rattle.lf_checks.specs.Tests.{choose}

-- Types of a context.

some_weakened : (o : Option LfType) (A : LfType) → weakened o ≡ Some A → (C : LfType) × (o ≡ Some C) × (A ≡ weaken C)
some_weakened (Some C) A e = (C, refl, cc)
some_weakened None A e = absurd cc

pub type_found : (G : List LfType) (i : ℕ) (A : LfType) → TypeAt G i A → type_at G i ≡ Some A
type_found [] i A t = absurd t
type_found (B ∷ G) zero A t = ap Some (sym t)
type_found (B ∷ G) (suc i) A (C, t, e) = ap weakened (type_found G i C t) ∙ ap Some (sym e)

found_type : (G : List LfType) (i : ℕ) (A : LfType) → type_at G i ≡ Some A → TypeAt G i A
found_type [] i A e = absurd cc
found_type (B ∷ G) zero A e = cc
found_type (B ∷ G) (suc i) A e = let (C, f, q) = some_weakened (type_at G i) A e in (C, found_type G i C f, q)

pub type_both : (G : List LfType) (i : ℕ) (A : LfType) → TypeAt G i A ↔ (type_at G i ≡ Some A)
type_both G i A = (type_found G i A, found_type G i A)

type_exists : (G : List LfType) (i : ℕ) → i < length G → (A : LfType) × TypeAt G i A
type_exists [] i l = absurd (omega arith)
type_exists (B ∷ G) zero l = (weaken B, refl)
type_exists (B ∷ G) (suc i) l = let (C, t) = type_exists G i (omega arith) in (weaken C, (C, t, refl))

scope_length : (A : LfType) (G : List LfType) → quantifiers A ≤ length (binders G A)
scope_length A G = let e : length (binders G A) ≡ quantifiers A + length G = at A G in omega arith
  where
    at : (A : LfType) (G : List LfType) → length (binders G A) ≡ quantifiers A + length G
    at (pi A B) G = let e : length (binders (A ∷ G) B) ≡ quantifiers B + suc (length G) = at B (A ∷ G) in omega arith
    at (atom a S) G = omega arith

pub subgoal_type : (c : Clause) (i : ℕ) → i < quantifiers c.type → (A : LfType) × TypeAt (scope c) i A
subgoal_type c i l = type_exists (scope c) i (let h : quantifiers c.type ≤ length (scope c) = scope_length c.type c.outer in omega arith)

-- What stands outside counts as a variable.
pub all_outside : (A : LfType) (V : ℕ → Bool) (p : ℕ) → ((j : ℕ) → p ≤ j → V j ≡ true) → (i : ℕ) → p + quantifiers A ≤ i → is_variable V A i ≡ true
all_outside (pi A B) V p h i l = all_outside B (with_newest (occurs_type zero B) V) (suc p) past i (omega arith)
  where
    past : (j : ℕ) → suc p ≤ j → with_newest (occurs_type zero B) V j ≡ true
    past zero l = absurd (omega arith)
    past (suc j) l = h j (omega arith)
all_outside (atom a S) V p h i l = h i (omega arith)

pub subgoal_inside : (c : Clause) (i : ℕ) → variables c i ≡ false → i < quantifiers c.type
subgoal_inside c i e = elim (before_or i (quantifiers c.type)) [ inl l ↦ l | inr l ↦ absurd (true≢false (sym (all_outside c.type everything zero (λ j k. refl) i (omega arith)) ∙ e)) ]
  where
    before_or : (i n : ℕ) → (i < n) ⊎ (n ≤ i)
    before_or i zero = inr (omega arith)
    before_or zero (suc n) = inl (omega arith)
    before_or (suc i) (suc n) = elim (before_or i n) [ inl l ↦ inl (omega arith) | inr l ↦ inr (omega arith) ]

-- The numbers of subgoals.

by_test : {X : Type 0} (b : Bool) → (b ≡ true → X) → (b ≡ false → X) → X
by_test true f g = f refl
by_test false f g = g refl

module _ (V : ℕ → Bool) where
  one_more : (xs : List ℕ) (y k x : ℕ) → numbered xs (suc k) ≡ Some x → numbered (y ∷ xs) (suc (suc k)) ≡ Some x
  one_more xs y k x e = e

  -- each quantifier that is no variable has a number
  number_found : (n i x : ℕ) → i ≤ x → x < i + n → V x ≡ false → (k : ℕ) × (numbered (subgoals_among V n i) (suc k) ≡ Some x)
  number_found zero i x l u e = absurd (omega arith)
  number_found (suc n) i x l u e = by (V i) refl (number_found n (suc i) x)
    where
      Found : Bool → Type 0
      Found b = (k : ℕ) × (numbered (cond b (subgoals_among V n (suc i)) (i ∷ subgoals_among V n (suc i))) (suc k) ≡ Some x)

      not_first : V i ≡ true → i ≡ x → ⊥
      not_first q r = true≢false (sym q ∙ ap V r ∙ e)

      same_or : (i x : ℕ) → i ≤ x → (i ≡ x) ⊎ (suc i ≤ x)
      same_or zero zero l = inl refl
      same_or zero (suc x) l = inr (omega arith)
      same_or (suc i) zero l = absurd (omega arith)
      same_or (suc i) (suc x) l = elim (same_or i x (omega arith)) [ inl r ↦ inl (ap suc r) | inr r ↦ inr (omega arith) ]

      by : (b : Bool) → V i ≡ b → (suc i ≤ x → x < suc i + n → V x ≡ false → (k : ℕ) × (numbered (subgoals_among V n (suc i)) (suc k) ≡ Some x)) → (k : ℕ) × (numbered (cond b (subgoals_among V n (suc i)) (i ∷ subgoals_among V n (suc i))) (suc k) ≡ Some x)
      by true q f = elim (same_or i x l) [ inl r ↦ absurd (not_first q r) | inr r ↦ f r (omega arith) e ]
      by false q f = elim (same_or i x l) [ inl r ↦ (zero, ap Some r) | inr r ↦ (let (k, h) = f r (omega arith) e in (suc k, h)) ]

  -- and what has one is a quantifier that is no variable
  found_number : (n i k x : ℕ) → numbered (subgoals_among V n i) k ≡ Some x → (0 < k) × (V x ≡ false) × (i ≤ x) × (x < i + n)
  found_number zero i k x e = absurd cc
  found_number (suc n) i k x e = by (V i) refl k (found_number n (suc i)) e
    where
      weaker : (k : ℕ) → (0 < k) × (V x ≡ false) × (suc i ≤ x) × (x < suc i + n) → (j : ℕ) → 0 < j → (0 < j) × (V x ≡ false) × (i ≤ x) × (x < i + suc n)
      weaker k (p, v, l, u) j z = (z, v, omega arith, omega arith)

      first : V i ≡ false → i ≡ x → (0 < 1) × (V x ≡ false) × (i ≤ x) × (x < i + suc n)
      first q r = (omega arith, subst (λ y. V y ≡ false) r q, omega arith, omega arith)

      by : (b : Bool) → V i ≡ b → (k : ℕ) → ((k x : ℕ) → numbered (subgoals_among V n (suc i)) k ≡ Some x → (0 < k) × (V x ≡ false) × (suc i ≤ x) × (x < suc i + n)) → numbered (cond b (subgoals_among V n (suc i)) (i ∷ subgoals_among V n (suc i))) k ≡ Some x → (0 < k) × (V x ≡ false) × (i ≤ x) × (x < i + suc n)
      by true q k f h = weaker k (f k x h) k (f k x h).0
      by false q zero f h = absurd cc
      by false q (suc zero) f h = first q cc
      by false q (suc (suc k)) f h = weaker (suc k) (f (suc k) x h) (suc (suc k)) (omega arith)

  -- a later number stands at a later index
  numbers_ascend : (n i k l x y : ℕ) → numbered (subgoals_among V n i) k ≡ Some x → numbered (subgoals_among V n i) l ≡ Some y → k < l → x < y
  numbers_ascend zero i k l x y e f u = absurd cc
  numbers_ascend (suc n) i k l x y e f u = by (V i) k l (numbers_ascend n (suc i)) e f u
    where
      L : List ℕ
      L = subgoals_among V n (suc i)

      by : (b : Bool) (k l : ℕ) → ((k l x y : ℕ) → numbered (subgoals_among V n (suc i)) k ≡ Some x → numbered (subgoals_among V n (suc i)) l ≡ Some y → k < l → x < y) → numbered (cond b (subgoals_among V n (suc i)) (i ∷ subgoals_among V n (suc i))) k ≡ Some x → numbered (cond b (subgoals_among V n (suc i)) (i ∷ subgoals_among V n (suc i))) l ≡ Some y → k < l → x < y
      by true k l g e f u = g k l x y e f u
      by false zero l g e f u = absurd cc
      by false (suc zero) zero g e f u = absurd cc
      by false (suc zero) (suc zero) g e f u = absurd (omega arith)
      by false (suc zero) (suc (suc l)) g e f u = let q : i ≡ x = cc in let h : suc i ≤ y = (found_number n (suc i) (suc l) y f).2 in omega arith
      by false (suc (suc k)) zero g e f u = absurd cc
      by false (suc (suc k)) (suc zero) g e f u = absurd (omega arith)
      by false (suc (suc k)) (suc (suc l)) g e f u = g (suc k) (suc l) x y e f (omega arith)

pub has_number : (c : Clause) (i : ℕ) (A : LfType) → IsSubgoal c i A → (k : ℕ) × (subgoal_at c k ≡ Some i)
has_number c i A s = let (k, e) = number_found (variables c) (quantifiers c.type) zero i (omega arith) (let l : i < quantifiers c.type = subgoal_inside c i s.0 in omega arith) s.0 in (suc k, e)

pub number_of : (c : Clause) (k i : ℕ) → subgoal_at c k ≡ Some i → (0 < k) × ((A : LfType) × IsSubgoal c i A)
number_of c k i e =
    let (p, v, l, u) = found_number (variables c) (quantifiers c.type) zero k i e in
    let (A, t) = subgoal_type c i (omega arith) in
    (p, (A, (v, t)))

pub in_order : (c : Clause) (k l i j : ℕ) → subgoal_at c k ≡ Some i → subgoal_at c l ≡ Some j → k < l → i < j
in_order c k l i j e f u = numbers_ascend (variables c) (quantifiers c.type) zero k l i j e f u

pub three_ways : (k l : ℕ) → (k < l) ⊎ (k ≡ l) ⊎ (l < k)
three_ways zero zero = inr (inl refl)
three_ways zero (suc l) = inl (omega arith)
three_ways (suc k) zero = inr (inr (omega arith))
three_ways (suc k) (suc l) = by (three_ways k l)
  where
    by : (k < l) ⊎ (k ≡ l) ⊎ (l < k) → (suc k < suc l) ⊎ (suc k ≡ suc l) ⊎ (suc l < suc k)
    by (inl u) = inl (omega arith)
    by (inr (inl e)) = inr (inl (ap suc e))
    by (inr (inr u)) = inr (inr (omega arith))

pub one_number : (c : Clause) (k l i : ℕ) → subgoal_at c k ≡ Some i → subgoal_at c l ≡ Some i → k ≡ l
one_number c k l i e f = by (three_ways k l)
  where
    by : (k < l) ⊎ (k ≡ l) ⊎ (l < k) → k ≡ l
    by (inl u) = let h : i < i = in_order c k l i i e f u in absurd (omega arith)
    by (inr (inl q)) = q
    by (inr (inr u)) = let h : i < i = in_order c l k i i f e u in absurd (omega arith)

-- The subgoals among the parts.
types_found : (ρ : ℕ → ℕ) (G : List LfType) (is : List ℕ) → ((k i : ℕ) → numbered is k ≡ Some i → (A : LfType) × TypeAt G i A) → (k i : ℕ) (A : LfType) → numbered is k ≡ Some i → TypeAt G i A → numbered (types_at ρ G is) k ≡ Some (rename_type ρ A)
types_found ρ G [] all k i A e t = absurd cc
types_found ρ G (j ∷ is) all k i A e t = let (X, x) = all 1 j refl in subst (λ o. numbered (with_subgoal ρ o (types_at ρ G is)) k ≡ Some (rename_type ρ A)) (sym (type_found G j X x)) (by X x k (types_found ρ G is (λ l n q. all (suc l) n (further l n q))) e)
  where
    further : (l n : ℕ) → numbered is l ≡ Some n → numbered (j ∷ is) (suc l) ≡ Some n
    further zero n q = absurd (none is q)
      where
        none : (xs : List ℕ) → numbered xs zero ≡ Some n → ⊥
        none [] q = cc
        none (x ∷ xs) q = cc
    further (suc l) n q = q

    by : (X : LfType) → TypeAt G j X → (k : ℕ) → ((k i : ℕ) (A : LfType) → numbered is k ≡ Some i → TypeAt G i A → numbered (types_at ρ G is) k ≡ Some (rename_type ρ A)) → numbered (j ∷ is) k ≡ Some i → numbered (rename_type ρ X ∷ types_at ρ G is) k ≡ Some (rename_type ρ A)
    by X x zero f e = absurd cc
    by X x (suc zero) f e = let q : j ≡ i = cc in ap (λ Y. Some (rename_type ρ Y)) (variable_type_unique G i X A (subst (λ n. TypeAt G n X) q x) t)
    by X x (suc (suc k)) f e = f (suc k) i A e t

pub part_found : (c : Clause) (k i : ℕ) (A : LfType) → subgoal_at c k ≡ Some i → TypeAt (scope c) i A → numbered (parts c).subgoals k ≡ Some (rename_type (variable_number c) A)
part_found c k i A e t = types_found (variable_number c) (scope c) (subgoals c) (λ l n q. let (p, (X, (v, x))) = number_of c l n q in (X, x)) k i A e t

-- What is ground before each subgoal is what the walk over the subgoals has.
module _ (V : ℕ → Bool) (m : ℕ → List Mark) (c : Clause) where
  pub past_variable : (i : ℕ) → variables c i ≡ true → ground_until V m c (suc i) ≡ ground_until V m c i
  past_variable i e = ap (λ b. ground_past m c b (type_at (scope c) i) (ground_until V m c i)) e

  pub past_subgoal : (i : ℕ) (A : LfType) → variables c i ≡ false → TypeAt (scope c) i A → ground_until V m c (suc i) ≡ ground_after m c A (ground_until V m c i)
  past_subgoal i A e t = ap (λ b. ground_past m c b (type_at (scope c) i) (ground_until V m c i)) e ∙ ap (λ o. ground_past m c false o (ground_until V m c i)) (type_found (scope c) i A t)

  module _ (P : (ℕ → Bool) → LfType → Type 0) (Q : (ℕ → Bool) → Type 0) where
    walk_on : (n i : ℕ) → i + n ≡ quantifiers c.type → EachSubgoal m c P Q n i (ground_until V m c i) → ((j : ℕ) (A : LfType) → i ≤ j → IsSubgoal c j A → P (ground_until V m c j) A) × Q (ground_at_end V m c)
    walk_on zero i e h = ((λ j A l s. let k : j < quantifiers c.type = subgoal_inside c j s.0 in absurd (omega arith)), subst (λ n. Q (ground_until V m c n)) (let q : i ≡ quantifiers c.type = omega arith in q) h)
    walk_on (suc n) i e h = by (variables c i) refl h (walk_on n (suc i) (omega arith))
      where
        same_or : (i x : ℕ) → i ≤ x → (i ≡ x) ⊎ (suc i ≤ x)
        same_or zero zero l = inl refl
        same_or zero (suc x) l = inr (omega arith)
        same_or (suc i) zero l = absurd (omega arith)
        same_or (suc i) (suc x) l = elim (same_or i x (omega arith)) [ inl r ↦ inl (ap suc r) | inr r ↦ inr (omega arith) ]

        Rest : Type 0
        Rest = ((j : ℕ) (A : LfType) → suc i ≤ j → IsSubgoal c j A → P (ground_until V m c j) A) × Q (ground_at_end V m c)

        by : (b : Bool) → variables c i ≡ b → choose b (EachSubgoal m c P Q n (suc i) (ground_until V m c i)) ((A : LfType) → TypeAt (scope c) i A → P (ground_until V m c i) A × EachSubgoal m c P Q n (suc i) (ground_after m c A (ground_until V m c i))) → (EachSubgoal m c P Q n (suc i) (ground_until V m c (suc i)) → ((j : ℕ) (A : LfType) → suc i ≤ j → IsSubgoal c j A → P (ground_until V m c j) A) × Q (ground_at_end V m c)) → ((j : ℕ) (A : LfType) → i ≤ j → IsSubgoal c j A → P (ground_until V m c j) A) × Q (ground_at_end V m c)
        by true v h f =
            let (g, q) = f (subst (EachSubgoal m c P Q n (suc i)) (sym (past_variable i v)) h) in
            ((λ j A l s. elim (same_or i j l) [ inl r ↦ absurd (true≢false (sym v ∙ ap (variables c) r ∙ s.0)) | inr r ↦ g j A r s ]), q)
        by false v h f =
            let (X, x) = subgoal_type c i (omega arith) in
            let (p, rest) = h X x in
            let (g, q) = f (subst (EachSubgoal m c P Q n (suc i)) (sym (past_subgoal i X v x)) rest) in
            ((λ j A l s. elim (same_or i j l) [ inl r ↦ subst (λ y. P (ground_until V m c y) A) r (h A (subst (λ y. TypeAt (scope c) y A) (sym r) s.1)).0 | inr r ↦ g j A r s ]), q)

    walk_back : (n i : ℕ) → i + n ≡ quantifiers c.type → ((j : ℕ) (A : LfType) → i ≤ j → IsSubgoal c j A → P (ground_until V m c j) A) → Q (ground_at_end V m c) → EachSubgoal m c P Q n i (ground_until V m c i)
    walk_back zero i e g q = subst (λ n. Q (ground_until V m c n)) (let r : quantifiers c.type ≡ i = omega arith in r) q
    walk_back (suc n) i e g q = by (variables c i) refl (walk_back n (suc i) (omega arith) (λ j A l s. g j A (omega arith) s) q)
      where
        by : (b : Bool) → variables c i ≡ b → EachSubgoal m c P Q n (suc i) (ground_until V m c (suc i)) → choose b (EachSubgoal m c P Q n (suc i) (ground_until V m c i)) ((A : LfType) → TypeAt (scope c) i A → P (ground_until V m c i) A × EachSubgoal m c P Q n (suc i) (ground_after m c A (ground_until V m c i)))
        by true v h = subst (EachSubgoal m c P Q n (suc i)) (past_variable i v) h
        by false v h = λ A t. (g i A (omega arith) (v, t), subst (EachSubgoal m c P Q n (suc i)) (past_subgoal i A v t) h)

    pub walked : EachSubgoal m c P Q (quantifiers c.type) zero (ground_from V m c) ↔ (((i : ℕ) (A : LfType) → IsSubgoal c i A → P (ground_until V m c i) A) × Q (ground_at_end V m c))
    walked = ((λ h. let (g, q) = walk_on (quantifiers c.type) zero (omega arith) h in ((λ i A s. g i A (omega arith) s), q)), (λ (g, q). walk_back (quantifiers c.type) zero (omega arith) (λ j A l s. g j A s) q))
