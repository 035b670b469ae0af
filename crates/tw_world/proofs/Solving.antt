-- The quantifiers of a clause, one after the other in solving order.
use Rattle.std.proofs.Common.{◌≡◌, ℕ, zero, suc, ◌+◌, ◌-◌, ◌<◌, ◌≤◌, List, [], ◌∷◌, Bool, true, false, Some, IsTrue, length, get_or, refl, sym, ap, ◌∙◌, subst, arith, inl, inr, true≢false}
use Rattle.std.specs.Prelude.{◌↔◌, ◌⊎◌, cond, not}
use Rattle.lf.specs.Entries.{quantifiers}
use Rattle.lf.specs.Syntax.{LfType, pi, atom}
use Rattle.lf.specs.Typing.{IsContext, IsType, Signature, TypeAt}
use Rattle.lf.specs.Variables.{binders, everything}
use Rattle.lf_checks.specs.Clause.{IsSubgoal, is_variable, with_newest}
use Rattle.lf_checks.specs.Parts.{count_below, shape, subgoal_at}
use Rattle.lf_checks.proofs.Numbered.{subgoal_inside, subgoal_type, type_both}
use Rattle.lf_checks.proofs.PartTypes.{counted_number}
use Rattle.tw_clause.proofs.Numbering.{scoped, scoped_shape}
use Rattle.tw_clause.proofs.Walks.{shape_length}
use Rattle.tw_world.specs.Checks.{ClauseFails, ClauseGoesDeep, ClausePasses, IsOpenUnder, PassesUnder, clause_of}
use Rattle.tw_world.specs.declared.check.Check.{Check}

below_or : (i n : ℕ) → i < suc n → (i < n) ⊎ (i ≡ n)
below_or zero zero h = inr refl
below_or zero (suc n) h = inl (omega arith)
below_or (suc i) zero h = absurd (omega (arith, h))
below_or (suc i) (suc n) h = elim (below_or i n (omega (arith, h))) [ inl l ↦ inl (omega (arith, l)) | inr e ↦ inr (ap suc e) ]

-- The last quantifier has index 0, and stands at the end of the shape.
outermost : (bs : List Bool) (V : ℕ → Bool) (n : ℕ) → scoped V bs (n + length bs) ≡ V n
outermost [] V n = ap V (let q : n + zero ≡ n = omega arith in q)
outermost (b ∷ bs) V n = ap (scoped (with_newest b V) bs) (let q : n + suc (length bs) ≡ suc n + length bs = omega arith in q) ∙ outermost bs (with_newest b V) (suc n)

scoped_at : (bs : List Bool) (V : ℕ → Bool) (i : ℕ) (d : Bool) → i < length bs → scoped V bs i ≡ get_or bs (length bs - 1 - i) d
scoped_at [] V i d h = absurd (omega (arith, h))
scoped_at (b ∷ bs) V i d h = elim (below_or i (length bs) h) [
  | inl l ↦ scoped_at bs (with_newest b V) i d l ∙ ap (λ k. get_or (b ∷ bs) k d) (let q : suc (length bs - 1 - i) ≡ suc (length bs) - 1 - i = omega (arith, l) in q)
  | inr e ↦ ap (scoped (with_newest b V) bs) (let q : i ≡ zero + length bs = omega (arith, e) in q) ∙ outermost bs (with_newest b V) zero ∙ ap (λ k. get_or (b ∷ bs) k d) (let q : zero ≡ suc (length bs) - 1 - i = omega (arith, e) in q)
]

pub variable_at : (A : LfType) (bs : List Bool) (i : ℕ) (d : Bool) → bs ≡ shape A → i < length bs → get_or bs (length bs - 1 - i) d ≡ is_variable everything A i
variable_at A bs i d e h = sym (scoped_at bs everything i d h) ∙ ap (λ xs. scoped everything xs i) e ∙ ap (λ V. V i) (sym (scoped_shape everything A))

-- The scope of a typed clause is one.
pub scope_is_context : (Σ : Signature) (A : LfType) (C : List LfType) → IsContext Σ C → IsType Σ C A → IsContext Σ (binders C A)
scope_is_context Σ (pi A B) C c (t1, t2) = scope_is_context Σ B (A ∷ C) (c, t1) t2
scope_is_context Σ (atom a S) C c t = c

scope_size : (A : LfType) (C : List LfType) → length (binders C A) ≡ quantifiers A + length C
scope_size (pi A B) C = let q = scope_size B (A ∷ C) in omega (arith, q)
scope_size (atom a S) C = omega arith

pub index_within : (A : LfType) (C G : List LfType) (bs : List Bool) (i : ℕ) → G ≡ binders C A → bs ≡ shape A → i < length bs → i < length G
index_within A C G bs i e f h =
    let a = scope_size A C in
    let b = ap length e in
    let c = ap length f in
    let d = shape_length A in
    omega (arith, a, b, c, d, h)

-- how many subgoals have a smaller index
abbrev pub solved : LfType → ℕ → ℕ
solved T n = count_below (λ j. not (is_variable everything T j)) n

pub none_solved : (T : LfType) → zero ≡ solved T zero
none_solved T = refl

pub one_solved : (T : LfType) (n k : ℕ) → is_variable everything T n ≡ false → k ≡ solved T n → k + 1 ≡ solved T (n + 1)
one_solved T n k v e = let q : k + 1 ≡ suc k = omega arith in q ∙ ap suc e ∙ sym (next v) ∙ ap (solved T) (let r : suc n ≡ n + 1 = omega arith in r)
  where
    next : is_variable everything T n ≡ false → solved T (suc n) ≡ suc (solved T n)
    next v = ap (λ b. cond (not b) (suc (solved T n)) (solved T n)) v

pub same_solved : (T : LfType) (n k : ℕ) → is_variable everything T n ≡ true → k ≡ solved T n → k ≡ solved T (n + 1)
same_solved T n k v e = e ∙ sym (ap (λ b. cond (not b) (suc (solved T n)) (solved T n)) v) ∙ ap (solved T) (let r : suc n ≡ n + 1 = omega arith in r)

module _ (x : Check) (C : List LfType) (T : LfType) where
  -- each subgoal with a smaller index passes
  abbrev pub PassBefore : ℕ → Type 0
  PassBefore n = (i : ℕ) (A : LfType) → i < n → is_variable everything T i ≡ false → TypeAt (binders C T) i A → PassesUnder x (binders C T) A

  pub none_before : PassBefore zero
  none_before i A l v t = absurd (omega (arith, l))

  pub past_variable : (n : ℕ) → is_variable everything T n ≡ true → PassBefore n → PassBefore (n + 1)
  past_variable n v h i A l w t = elim (below_or i n (omega (arith, l))) [ inl k ↦ h i A k w t | inr e ↦ absurd (true≢false (sym v ∙ ap (is_variable everything T) (sym e) ∙ w)) ]

  pub past_subgoal : (n : ℕ) → ((A : LfType) → TypeAt (binders C T) n A → PassesUnder x (binders C T) A) → PassBefore n → PassBefore (n + 1)
  past_subgoal n p h i A l w t = elim (below_or i n (omega (arith, l))) [ inl k ↦ h i A k w t | inr e ↦ p A (subst (λ j. TypeAt (binders C T) j A) e t) ]

  pub all_pass : (n : ℕ) (bs : List Bool) (F : ℕ → Bool) → bs ≡ shape T → length bs ≤ n → PassBefore n → ClausePasses x (clause_of C F T)
  all_pass n bs F e l h i A s =
      let a = ap length e in
      let b = shape_length T in
      let c = subgoal_inside (clause_of C F T) i s.0 in
      h i A (omega (arith, a, b, c, l)) s.0 s.1

  -- the subgoal at this index
  module _ (n k : ℕ) (bs : List Bool) (F : ℕ → Bool) (e : bs ≡ shape T) (l : n < length bs) (v : is_variable everything T n ≡ false) (q : k ≡ solved T n) (h : PassBefore n) where
    found : (A : LfType) × IsSubgoal (clause_of C F T) n A
    found =
        let a = ap length e in
        let b = shape_length T in
        let (A, t) = subgoal_type (clause_of C F T) n (omega (arith, a, b, l)) in
        (A, (v, t))

    number : (A : LfType) → IsSubgoal (clause_of C F T) n A → subgoal_at (clause_of C F T) (k + 1) ≡ Some n
    number A s = ap (subgoal_at (clause_of C F T)) (let r : k + 1 ≡ suc k = omega arith in r ∙ ap suc q) ∙ counted_number (clause_of C F T) n A s

    pub fails_here : ((A : LfType) → TypeAt (binders C T) n A → PassesUnder x (binders C T) A → ⊥) → ClauseFails x (clause_of C F T) (k + 1)
    fails_here f =
        let (A, s) = found in
        record {
          index = n;
          subgoal = A;
          stands = number A s;
          is_subgoal = s;
          before = λ i B m t. h i B m t.0 t.1;
          fails = f A s.1;
        }

    pub deep_here : ((A : LfType) → TypeAt (binders C T) n A → IsOpenUnder x (binders C T) A) → ClauseGoesDeep x (clause_of C F T) (k + 1)
    deep_here f =
        let (A, s) = found in
        record {
          index = n;
          subgoal = A;
          stands = number A s;
          is_subgoal = s;
          before = λ i B m t. h i B m t.0 t.1;
          is_open = f A s.1;
        }

-- a variable has one type
pub same_type : (G : List LfType) (i : ℕ) (A B : LfType) → TypeAt G i A → TypeAt G i B → A ≡ B
same_type G i A B s t = one (sym ((type_both G i A).0 s) ∙ (type_both G i B).0 t)
  where
    one : {X : Type 0} {x y : X} → Some x ≡ Some y → x ≡ y
    one e = cc

-- a test that says no
pub not_passing : {P : Type 0} (b : Bool) → b ≡ false → (IsTrue b ↔ P) → P → ⊥
not_passing b e d p = true≢false (sym (d.1 p) ∙ e)
