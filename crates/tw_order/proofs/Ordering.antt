-- Orders compared component by component.
use Rattle.std.proofs.Common.{◌≡◌, ℕ, List, [], ◌∷◌, Bool, true, false, length, refl, sym, subst, arith, inl, inr}
use Rattle.std.specs.Prelude.{◌==◌, Decides, ◌⊎◌}
use Rattle.std.proofs.lemmas.Bool.Decides.{Decides-at, Decides-eqb}
use Rattle.lf_checks.specs.Order.{AllAlike, AllSame, Less, LessLexicographic, LessSimultaneous, NoneGreater, Order, Orders, Same, next_order, no_order}
use Rattle.tw_clause.specs.declared.order.Order.{Order as RustOrder}
use Rattle.tw_order.specs.Components.{orders_in}
use Rattle.tw_order.proofs.Deciding.{decided_as, decided_no, decided_yes, not_so}

-- a relation of two orders, where these are seen
pub at_orders : (R : Order → Order → Type 0) (b : Bool) (O O' P P' : Order) → O ≡ O' → P ≡ P' → Decides b (R O' P') → Decides b (R O P)
at_orders R b O O' P P' e f d = subst (λ X. Decides b (R X P)) (sym e) (subst (λ X. Decides b (R O' X)) (sym f) d)

-- whether there are components
pub emptiness : {X : Type 0} (b : Bool) (xs : List X) → b ≡ (length xs == 0) → Decides b (length xs ≡ 0)
emptiness b xs e = Decides-at b (length xs == 0) e (Decides-eqb (length xs) 0)

pub some_there : {X : Type 0} (b : Bool) (xs : List X) → b ≡ (length xs == 0) → b ≡ false → length xs ≡ 0 → ⊥
some_there b xs e f = not_so b f (emptiness b xs e)

-- no components
pub alike_none : (b : Bool) (xs ys : List RustOrder) → length xs ≡ 0 → Decides b (length ys ≡ 0) → Decides b (AllAlike (orders_in xs) (orders_in ys))
alike_none b [] [] e d = ((λ t. tt), λ u. d.1 refl)
alike_none b [] (y ∷ ys) e d = ((λ t. absurd (omega (arith, d.0 t))), λ u. absurd u)
alike_none b (x ∷ xs) ys e d = absurd (omega (arith, e))

pub not_alike : (xs ys : List RustOrder) → (length xs ≡ 0 → ⊥) → length ys ≡ 0 → Decides false (AllAlike (orders_in xs) (orders_in ys))
not_alike [] ys n e = absurd (n refl)
not_alike (x ∷ xs) [] n e = decided_no (λ h. h)
not_alike (x ∷ xs) (y ∷ ys) n e = absurd (omega (arith, e))

module _ (E : ℕ → ℕ → Type 0) where
  pub same_none : (b : Bool) (xs ys : List RustOrder) → length xs ≡ 0 → Decides b (length ys ≡ 0) → Decides b (AllSame E (orders_in xs) (orders_in ys))
  same_none b [] [] e d = ((λ t. tt), λ u. d.1 refl)
  same_none b [] (y ∷ ys) e d = ((λ t. absurd (omega (arith, d.0 t))), λ u. absurd u)
  same_none b (x ∷ xs) ys e d = absurd (omega (arith, e))

  pub not_same : (xs ys : List RustOrder) → (length xs ≡ 0 → ⊥) → length ys ≡ 0 → Decides false (AllSame E (orders_in xs) (orders_in ys))
  not_same [] ys n e = absurd (n refl)
  not_same (x ∷ xs) [] n e = decided_no (λ h. h)
  not_same (x ∷ xs) (y ∷ ys) n e = absurd (omega (arith, e))

module _ (L E : ℕ → ℕ → Type 0) where
  pub greater_none : (xs ys : List RustOrder) → (length xs ≡ 0 → ⊥) → length ys ≡ 0 → Decides false (NoneGreater L E (orders_in xs) (orders_in ys))
  greater_none [] ys n e = absurd (n refl)
  greater_none (x ∷ xs) [] n e = decided_no (λ h. h)
  greater_none (x ∷ xs) (y ∷ ys) n e = absurd (omega (arith, e))

  simultaneous_all : (Os Ps : Orders) → LessSimultaneous L E Os Ps → NoneGreater L E Os Ps
  simultaneous_all no_order Ps h = absurd h
  simultaneous_all (next_order O Os) no_order h = absurd h
  simultaneous_all (next_order O Os) (next_order P Ps) (inl (l, n)) = (inl l, n)
  simultaneous_all (next_order O Os) (next_order P Ps) (inr (s, h)) = (inr s, simultaneous_all Os Ps h)

  module _ (Xs Ys Os Ps : Orders) (O P : Order) (x : Xs ≡ next_order O Os) (y : Ys ≡ next_order P Ps) where
    seen : (R : Orders → Orders → Type 0) (r : Bool) → Decides r (R (next_order O Os) (next_order P Ps)) → Decides r (R Xs Ys)
    seen R r d = subst (λ Z. Decides r (R Z Ys)) (sym x) (subst (λ Z. Decides r (R (next_order O Os) Z)) (sym y) d)

    pub lexicographic_less : (b : Bool) → b ≡ true → Decides b (Less L E O P) → Decides true (LessLexicographic L E Xs Ys)
    lexicographic_less b t d = seen (LessLexicographic L E) true (decided_yes (inl (d.0 t)))

    pub lexicographic_next : (b d r : Bool) → b ≡ false → d ≡ true → Decides b (Less L E O P) → Decides d (Same E O P) → Decides r (LessLexicographic L E Os Ps) → Decides r (LessLexicographic L E Xs Ys)
    lexicographic_next b d r s t u v w = seen (LessLexicographic L E) r (decided_as r (λ h. inr (v.0 t, h)) (λ h. elim h [ inl l ↦ absurd (not_so b s u l) | inr (e, k) ↦ k ]) w)

    pub lexicographic_stops : (b d : Bool) → b ≡ false → d ≡ false → Decides b (Less L E O P) → Decides d (Same E O P) → Decides false (LessLexicographic L E Xs Ys)
    lexicographic_stops b d s t u v = seen (LessLexicographic L E) false (decided_no (λ h. elim h [ inl l ↦ not_so b s u l | inr (e, k) ↦ not_so d t v e ]))

    pub simultaneous_less : (b r : Bool) → b ≡ true → Decides b (Less L E O P) → Decides r (NoneGreater L E Os Ps) → Decides r (LessSimultaneous L E Xs Ys)
    simultaneous_less b r t u w = seen (LessSimultaneous L E) r (decided_as r (λ h. inl (u.0 t, h)) (λ h. elim h [ inl (l, n) ↦ n | inr (e, k) ↦ simultaneous_all Os Ps k ]) w)

    pub simultaneous_next : (b d r : Bool) → b ≡ false → d ≡ true → Decides b (Less L E O P) → Decides d (Same E O P) → Decides r (LessSimultaneous L E Os Ps) → Decides r (LessSimultaneous L E Xs Ys)
    simultaneous_next b d r s t u v w = seen (LessSimultaneous L E) r (decided_as r (λ h. inr (v.0 t, h)) (λ h. elim h [ inl (l, n) ↦ absurd (not_so b s u l) | inr (e, k) ↦ k ]) w)

    pub simultaneous_stops : (b d : Bool) → b ≡ false → d ≡ false → Decides b (Less L E O P) → Decides d (Same E O P) → Decides false (LessSimultaneous L E Xs Ys)
    simultaneous_stops b d s t u v = seen (LessSimultaneous L E) false (decided_no (λ h. elim h [ inl (l, n) ↦ not_so b s u l | inr (e, k) ↦ not_so d t v e ]))

    pub none_next : (b r : Bool) → b ≡ true → Decides b (Less L E O P ⊎ Same E O P) → Decides r (NoneGreater L E Os Ps) → Decides r (NoneGreater L E Xs Ys)
    none_next b r t u w = seen (NoneGreater L E) r (decided_as r (λ h. (u.0 t, h)) (λ h. h.1) w)

    pub none_stops : (b : Bool) → b ≡ false → Decides b (Less L E O P ⊎ Same E O P) → Decides false (NoneGreater L E Xs Ys)
    none_stops b t u = seen (NoneGreater L E) false (decided_no (λ h. not_so b t u h.0))

  pub either_less : (b : Bool) (O P : Order) → b ≡ true → Decides b (Less L E O P) → Decides true (Less L E O P ⊎ Same E O P)
  either_less b O P t d = decided_yes (inl (d.0 t))

  pub either_same : (b d : Bool) (O P : Order) → b ≡ false → Decides b (Less L E O P) → Decides d (Same E O P) → Decides d (Less L E O P ⊎ Same E O P)
  either_same b d O P t u v = decided_as d inr (λ h. elim h [ inl l ↦ absurd (not_so b t u l) | inr s ↦ s ]) v
