-- Orders as they are written, component by component, and the orders over places that they give.
use Rattle.std.proofs.Common.{◌≡◌, ℕ, List, [], ◌∷◌, ◌++◌, map, Vec, Global, Bool, Some, None, true, false, get_or, slice_get, drop, drop-cons, length, ◌<◌, ◌≤◌, suc, zero, refl, sym, ap, ◌∙◌, subst, rules, arith, true≢false}
use Rattle.std.proofs.lemmas.List.{append-nil, drop_all}
use Rattle.lf_checks.specs.Marks.{input_places, is_input}
use Rattle.tw_clause.specs.View.{mark_of}
use Rattle.tw_clause.specs.declared.name.Mark3.{Mark3}
use Rattle.lf_checks.specs.Order as plain
use Rattle.tw_clause.specs.Orders.{order_of, orders_from}
use Rattle.tw_clause.specs.declared.order.Order as made
use Rattle.tw_clause.proofs.OrderViews.{order_of-Arg, order_of-Lex, order_of-Simul}
use Rattle.tw_parse.specs.declared.decl.ExtName.{ExtName}
use Rattle.tw_parse_checks.specs.Checks as written
use Rattle.tw_parse_checks.specs.declared.check.ExtOrder.{ExtOrder, Each, Lex, Simul, the_lemmas}
use Rattle.tw_decl.specs.Steps.{IsOrderAt}
use Rattle.tw_decl.specs.Termination.{order_at, orders_at, place_of}

pub written_of-Each : (v : Vec ExtName Global) → written.order_of (Each v) ≡ written.each v.items
unfolding written.order_of
written_of-Each v = search (rules, the_lemmas)

pub written_of-Lex : (v : Vec ExtOrder Global) → written.order_of (Lex v) ≡ written.lexicographic (written.orders_from (map written.order_of v.items))
unfolding written.order_of
written_of-Lex v = search (rules, the_lemmas)

pub written_of-Simul : (v : Vec ExtOrder Global) → written.order_of (Simul v) ≡ written.simultaneous (written.orders_from (map written.order_of v.items))
unfolding written.order_of
written_of-Simul v = search (rules, the_lemmas)

-- the orders of a list are at places of m
abbrev pub AllAt : List Bool → List plain.Order → Type 0
AllAt m Os = plain.AreAtPlaces m (orders_from Os)

-- the components that are left decide for all
pub record Decide (m : List Bool) (left all : List plain.Order) : Type 0 where
  pub then_all : AllAt m left → AllAt m all
  pub then_left : AllAt m all → AllAt m left

pub decide_all : (m : List Bool) (all : List plain.Order) → Decide m all all
decide_all m all = record { then_all = λ h. h; then_left = λ h. h }

pub decide_next : (m : List Bool) (O : plain.Order) (left rest all : List plain.Order) → left ≡ O ∷ rest → plain.IsAtPlaces m O → Decide m left all → Decide m rest all
decide_next m O left rest all e at h = let d : Decide m (O ∷ rest) all = subst (λ xs. Decide m xs all) e h in record { then_all = λ k. d.then_all (at, k); then_left = λ k. (d.then_left k).1 }

pub decide_off : (m : List Bool) (O : plain.Order) (left rest all : List plain.Order) → left ≡ O ∷ rest → (plain.IsAtPlaces m O → ⊥) → Decide m left all → AllAt m all → ⊥
decide_off m O left rest all e off h k = let d : Decide m (O ∷ rest) all = subst (λ xs. Decide m xs all) e h in off ((d.then_left k).0)

pub place_zero : (m : List Bool) → plain.chosen_at m 0 ≡ false
place_zero [] = refl
place_zero (b ∷ m) = refl

-- a place is chosen where the mark there is an input
pub place_read : (ms : List Mark3) (i : ℕ) (d : Mark3) → i < length ms → plain.chosen_at (input_places (map mark_of ms)) (suc i) ≡ is_input (mark_of (get_or ms i d))
place_read [] i d h = absurd (omega (arith, h))
place_read (x ∷ xs) zero d h = refl
place_read (x ∷ xs) (suc i) d h = let rest : i < length xs = omega (arith, h) in place_read xs i d rest

pub place_past : (ms : List Mark3) (i : ℕ) → length ms ≤ i → plain.chosen_at (input_places (map mark_of ms)) (suc i) ≡ false
place_past [] i h = refl
place_past (x ∷ xs) zero h = absurd (omega (arith, h))
place_past (x ∷ xs) (suc i) h = let rest : length xs ≤ i = omega (arith, h) in place_past xs i rest

-- what is left of a list begins with the next one
pub left_first : {X Y : Type 0} (f : X → Y) (xs ys : List X) (i : ℕ) (x : X) → xs ≡ ys → i < length xs → x ≡ get_or xs i x → map f (drop i ys) ≡ f x ∷ map f (drop (suc i) ys)
left_first f xs ys i x same within is = subst (λ zs. map f (drop i zs) ≡ f x ∷ map f (drop (suc i) zs)) same (subst (λ y. map f (drop i xs) ≡ f y ∷ map f (drop (suc i) xs)) (sym is) (ap (map f) (drop-cons xs i x within)))

-- nothing is left in the end
pub all_made : {X Y Z : Type 0} (f : X → Y) (g : Z → Y) (xs : List X) (zs : List Z) (i : ℕ) → length xs ≤ i → map g zs ++ map f (drop i xs) ≡ map f xs → map g zs ≡ map f xs
all_made f g xs zs i past h = sym (append-nil (map g zs)) ∙ ap (λ ys. map g zs ++ map f ys) (sym (drop_all i xs past)) ∙ h

pub all_at : {X : Type 0} (m : List Bool) (f : X → plain.Order) (xs : List X) (i : ℕ) → length xs ≤ i → Decide m (map f (drop i xs)) (map f xs) → AllAt m (map f xs)
all_at m f xs i past d = let e : Decide m [] (map f xs) = subst (λ ys. Decide m (map f ys) (map f xs)) (drop_all i xs past) d in e.then_all tt

module _ (m : List Bool) (k n : ℕ) (names : List ExtName) where
  -- the order of a component
  abbrev pub component : ExtOrder → plain.Order
  component o = order_at k n names (written.order_of o)

  pub listed : (os : List ExtOrder) → orders_at k n names (written.orders_from (map written.order_of os)) ≡ orders_from (map component os)
  listed [] = refl
  listed (o ∷ os) = ap (plain.next_order (component o)) (listed os)

  by_lex : (os : Vec ExtOrder Global) → component (Lex os) ≡ plain.lexicographic (orders_from (map component os.items))
  by_lex os = ap (order_at k n names) (written_of-Lex os) ∙ ap plain.lexicographic (listed os.items)

  by_simul : (os : Vec ExtOrder Global) → component (Simul os) ≡ plain.simultaneous (orders_from (map component os.items))
  by_simul os = ap (order_at k n names) (written_of-Simul os) ∙ ap plain.simultaneous (listed os.items)

  pub made_lex : (o : ExtOrder) (os : Vec ExtOrder Global) (v : Vec made.Order Global) → o ≡ Lex os → map order_of v.items ≡ map component os.items → AllAt m (map component os.items) → IsOrderAt m (component o) (Some (made.Lex v))
  made_lex o os v is e at =
      let same : component o ≡ plain.lexicographic (orders_from (map component os.items)) = ap component is ∙ by_lex os in
      (order_of-Lex v ∙ ap (λ xs. plain.lexicographic (orders_from xs)) e ∙ sym same, subst (plain.IsAtPlaces m) (sym same) at)

  pub off_lex : (o : ExtOrder) (os : Vec ExtOrder Global) → o ≡ Lex os → (AllAt m (map component os.items) → ⊥) → IsOrderAt m (component o) None
  off_lex o os is off h = let same : component o ≡ plain.lexicographic (orders_from (map component os.items)) = ap component is ∙ by_lex os in off (let at : plain.IsAtPlaces m (plain.lexicographic (orders_from (map component os.items))) = subst (plain.IsAtPlaces m) same h in at)

  pub made_simul : (o : ExtOrder) (os : Vec ExtOrder Global) (v : Vec made.Order Global) → o ≡ Simul os → map order_of v.items ≡ map component os.items → AllAt m (map component os.items) → IsOrderAt m (component o) (Some (made.Simul v))
  made_simul o os v is e at =
      let same : component o ≡ plain.simultaneous (orders_from (map component os.items)) = ap component is ∙ by_simul os in
      (order_of-Simul v ∙ ap (λ xs. plain.simultaneous (orders_from xs)) e ∙ sym same, subst (plain.IsAtPlaces m) (sym same) at)

  pub off_simul : (o : ExtOrder) (os : Vec ExtOrder Global) → o ≡ Simul os → (AllAt m (map component os.items) → ⊥) → IsOrderAt m (component o) None
  off_simul o os is off h = let same : component o ≡ plain.simultaneous (orders_from (map component os.items)) = ap component is ∙ by_simul os in off (let at : plain.IsAtPlaces m (plain.simultaneous (orders_from (map component os.items))) = subst (plain.IsAtPlaces m) same h in at)

  by_each : (o : ExtOrder) (vs : Vec ExtName Global) (p : ℕ) → o ≡ Each vs → p ≡ place_of n names (slice_get vs.items k) → component o ≡ plain.place p
  by_each o vs p is e = ap component is ∙ ap (order_at k n names) (written_of-Each vs) ∙ ap plain.place (sym e)

  pub made_each : (o : ExtOrder) (vs : Vec ExtName Global) (p : ℕ) → o ≡ Each vs → p ≡ place_of n names (slice_get vs.items k) → plain.chosen_at m p ≡ true → IsOrderAt m (component o) (Some (made.Arg p))
  made_each o vs p is e at = (order_of-Arg p ∙ sym (by_each o vs p is e), subst (plain.IsAtPlaces m) (sym (by_each o vs p is e)) at)

  pub off_each : (o : ExtOrder) (vs : Vec ExtName Global) (p : ℕ) → o ≡ Each vs → p ≡ place_of n names (slice_get vs.items k) → plain.chosen_at m p ≡ false → IsOrderAt m (component o) None
  off_each o vs p is e off h = let at : plain.chosen_at m p ≡ true = subst (plain.IsAtPlaces m) (by_each o vs p is e) h in true≢false (sym at ∙ off)
