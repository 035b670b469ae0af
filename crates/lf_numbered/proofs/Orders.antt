-- A well formed store is well formed with each order of its metavariables.
use Rattle.std.proofs.Common.{◌≡◌, ℕ, zero, suc, List, [], ◌∷◌, ◌++◌, inl, inr, refl, sym, ap, ap₂, ◌∙◌, subst, map, reverse, true≢false}
use Rattle.std.specs.Prelude.{Bool, true, false, cond, Option, Some, None}
use Rattle.std.proofs.lemmas.List.{append-nil, append_assoc, reverse-append, reverse-reverse}
use Rattle.lf.specs.Syntax.{Term, LfType, app, metavariable, nil, root}
use Rattle.lf.specs.Subordination.{Member}
use Rattle.lf.specs.Typing.{Signature}
use Rattle.lf.specs.Variables.{same_number}
use Rattle.lf.proofs.Checker.{number_itself}
use Rattle.lf_checks.proofs.Listed.{member_left, member_right}
use Rattle.lf_totality.specs.ExamplesGroups.{on_one}
use Rattle.lf_unification.specs.Dependency.{IsListed, ListedMetavariable}
use Rattle.lf_unification.specs.OpenTyping.{Declares, MetavariablesIn, MetavariablesInType}
use Rattle.lf_unification.specs.PartialInstance.{IsFilling}
use Rattle.lf_unification.specs.Solving.{BindingsAreListed, IsWellFormed, ValuesAreBindings}
use Rattle.lf_unification.specs.Unifiers.{Binding, Store}
use Rattle.lf_unification.proofs.Partition.{Dependent, ValueIn}
use Rattle.lf_unification.proofs.Place.{Distinct, ItemIsOrdered, ItemsAreOrdered, ordered_of, ordered_parts}
use Rattle.lf_unification.proofs.Scope.{in_weaker, in_weaker_type}
use Rattle.lf_unification.proofs.Solving.{binding_of, listed_binding, listed_once}
use Rattle.lf_coverage.proofs.Parts.{some_same}
use Rattle.lf_numbered.specs.Orders.{AnyOrderServes, FollowingIsOrder, HasAll, IsOrderOf, MentionsOnly, OwnOrderIsOne, SolvedInAnyOrder, order_of}
use Rattle.lf_numbered.specs.OrdersExamples.{FourHaveTwoOrders, four_store}

abbrev numbers : List ListedMetavariable → List ℕ
numbers is = map (λ (it : ListedMetavariable). it.of) is

-- What is listed has a number of the list, and an item.
number_in : (is : List ListedMetavariable) (m : ℕ) → IsListed is m → Member m (numbers is)
number_in [] m l = absurd l
number_in (it ∷ is) m (inl e) = inl e
number_in (it ∷ is) m (inr l) = inr (number_in is m l)

listed_in : (is : List ListedMetavariable) (m : ℕ) → Member m (numbers is) → IsListed is m
listed_in [] m l = absurd l
listed_in (it ∷ is) m (inl e) = inl e
listed_in (it ∷ is) m (inr l) = inr (listed_in is m l)

item_of : (is : List ListedMetavariable) (m : ℕ) → IsListed is m → (it : ListedMetavariable) × Member it is × (it.of ≡ m)
item_of [] m l = absurd l
item_of (it ∷ is) m (inl e) = (it, inl refl, sym e)
item_of (it ∷ is) m (inr l) = let (x, i, e) = item_of is m l in (x, inr i, e)

-- These are the items of the numbers, in their order.
record Items (is : List ListedMetavariable) (ms : List ℕ) : Type 0 where
  list : List ListedMetavariable
  same : numbers list ≡ ms
  among : (it : ListedMetavariable) → Member it list → Member it is

items_of : (is : List ListedMetavariable) (ms : List ℕ) → ((m : ℕ) → Member m ms → IsListed is m) → Items is ms
items_of is [] l = record { list = []; same = refl; among = λ it i. absurd i }
items_of is (m ∷ ms) l =
    let (it, i, e) = item_of is m (l m (inl refl)) in
    let js : Items is ms = items_of is ms (λ n k. l n (inr k)) in
    record { list = it ∷ js.list; same = ap₂ (λ n ns. n ∷ ns) e js.same; among = λ x k. at it i js x k }
  where
    at : (it : ListedMetavariable) → Member it is → (js : Items is ms) → (x : ListedMetavariable) → Member x (it ∷ js.list) → Member x is
    at it i js x (inl e) = subst (λ y. Member y is) (sym e) i
    at it i js x (inr k) = js.among x k

-- All that follows is of one store.
module _ (Σ : Signature) (s : Store) (w : IsWellFormed Σ s) where
  abbrev U : (ℕ → Option Term) → Type 0
  U = IsFilling Σ [] s

  item_ordered : (is : List ListedMetavariable) → ItemsAreOrdered Σ s.metavariables U is → (it : ListedMetavariable) → Member it is → ItemIsOrdered Σ s.metavariables U it
  item_ordered [] o it i = absurd i
  item_ordered (x ∷ is) (o, os) it (inl e) = subst (ItemIsOrdered Σ s.metavariables U) (sym e) o
  item_ordered (x ∷ is) (o, os) it (inr i) = item_ordered is os it i

  -- Each item of the store's own order is typed and closed.
  own_item : (it : ListedMetavariable) → Member it w.order → ItemIsOrdered Σ s.metavariables U it
  own_item = item_ordered w.order (ordered_parts Σ s.metavariables U w.order w.is_order).2

  listed_declared : (m : ℕ) → IsListed w.order m → Declares s.metavariables m
  listed_declared m l = let (it, i, e) = item_of w.order m l in (it.of_type, ap s.metavariables (sym e) ∙ (own_item it i).0)

  -- Its own order is one.
  own_order : (is : List ListedMetavariable) → ((it : ListedMetavariable) → Member it is → Member it w.order) → Dependent is → Distinct is → IsOrderOf s (numbers is)
  own_order [] a d x = tt
  own_order (it ∷ is) a ((t, v), d) (out, x) = (
    (it.of_type, declared),
    (λ i. out (listed_in is it.of i)),
    record {
      in_type = λ A e. subst (MetavariablesInType (λ n. Member n (numbers is))) (some_same (sym declared ∙ e)) (in_weaker_type (IsListed is) (λ n. Member n (numbers is)) (number_in is) it.of_type t);
      in_value = λ N i. value it.value N v (own_value N i);
    },
    own_order is (λ y i. a y (inr i)) d x,
  )
    where
      declared : s.metavariables it.of ≡ Some it.of_type
      declared = (own_item it (a it (inl refl))).0

      own_value : (N : Term) → Member (record { of = it.of; value = N }) s.bindings → it.value ≡ Some N
      own_value N i =
          let (A, l) = listed_binding w.order s.bindings w.bindings_listed (record { of = it.of; value = N }) i in
          ap (λ (y : ListedMetavariable). y.value) (listed_once Σ s.metavariables U w.order w.is_order it (record { of = it.of; of_type = A; value = Some N }) (a it (inl refl)) l refl)

      value : (x : Option Term) (N : Term) → ValueIn (IsListed is) x → x ≡ Some N → MetavariablesIn (λ n. Member n (numbers is)) N
      value None N v e = absurd cc
      value (Some M) N v e = subst (MetavariablesIn (λ n. Member n (numbers is))) (some_same e) (in_weaker (IsListed is) (λ n. Member n (numbers is)) (number_in is) M v)

  own_order_is_one : IsOrderOf s (order_of w) × HasAll s (order_of w)
  own_order_is_one = let (d, x, o) = ordered_parts Σ s.metavariables U w.order w.is_order in (own_order w.order (λ it i. i) d x, λ m A e. number_in w.order m (w.all_listed m A e))

  -- Where the numbers of some items are an order, each item depends on those behind it.
  items_dependent : (js : List ListedMetavariable) → ((it : ListedMetavariable) → Member it js → Member it w.order) → IsOrderOf s (numbers js) → Dependent js × Distinct js × ItemsAreOrdered Σ s.metavariables U js
  items_dependent [] a o = (tt, tt, tt)
  items_dependent (it ∷ js) a (declares, out, m, o) =
      let i : Member it w.order = a it (inl refl) in
      let own : ItemIsOrdered Σ s.metavariables U it = own_item it i in
      let (d, x, os) = items_dependent js (λ y k. a y (inr k)) o in
      (((in_weaker_type (λ n. Member n (numbers js)) (IsListed js) (listed_in js) it.of_type (m.in_type it.of_type own.0), value it.value refl), d), ((λ l. out (number_in js it.of l)), x), (own, os))
    where
      value : (x : Option Term) → it.value ≡ x → ValueIn (IsListed js) x
      value None e = tt
      value (Some N) e = in_weaker (λ n. Member n (numbers js)) (IsListed js) (listed_in js) N (m.in_value N (binding_of s.bindings w.order w.values_bound it (a it (inl refl)) N e))

  module _ (ms : List ℕ) (o : IsOrderOf s ms) (all : HasAll s ms) where
    declared_in : (ns : List ℕ) → IsOrderOf s ns → (m : ℕ) → Member m ns → IsListed w.order m
    declared_in [] o m i = absurd i
    declared_in (n ∷ ns) (d, out, x, o) m (inl q) = w.all_listed m d.0 (ap s.metavariables q ∙ d.1)
    declared_in (n ∷ ns) (d, out, x, o) m (inr i) = declared_in ns o m i

    items : Items w.order ms
    items = items_of w.order ms (declared_in ms o)

    listed_here : (m : ℕ) (A : LfType) → s.metavariables m ≡ Some A → IsListed items.list m
    listed_here m A e = listed_in items.list m (subst (Member m) (sym items.same) (all m A e))

    -- Each item of the store's order is one of these.
    item_here : (it : ListedMetavariable) → Member it w.order → Member it items.list
    item_here it i =
        let (x, k, e) = item_of items.list it.of (listed_here it.of it.of_type (own_item it i).0) in
        subst (λ y. Member y items.list) (listed_once Σ s.metavariables U w.order w.is_order x it (items.among x k) i e) k

    bindings_here : (bs : List Binding) → BindingsAreListed w.order bs → BindingsAreListed items.list bs
    bindings_here [] l = tt
    bindings_here (b ∷ bs) ((A, i), l) = ((A, item_here (record { of = b.of; of_type = A; value = Some b.value }) i), bindings_here bs l)

    values_here : (js : List ListedMetavariable) → ((it : ListedMetavariable) → Member it js → Member it w.order) → ValuesAreBindings s.bindings js
    values_here [] a = tt
    values_here (it ∷ js) a = ((λ N e. binding_of s.bindings w.order w.values_bound it (a it (inl refl)) N e), values_here js (λ y k. a y (inr k)))

    other_order : (v : IsWellFormed Σ s) × (order_of v ≡ ms)
    other_order =
        let (d, x, os) = items_dependent items.list items.among (subst (IsOrderOf s) (sym items.same) o) in (
          record {
            order = items.list;
            is_order = ordered_of Σ s.metavariables U items.list d x os;
            all_listed = listed_here;
            bindings_listed = bindings_here s.bindings w.bindings_listed;
            values_bound = values_here items.list items.among;
            typed = w.typed;
          },
          items.same,
        )

pub own_order_is_one_of : OwnOrderIsOne
own_order_is_one_of Σ s w = own_order_is_one Σ s w

pub any_order_serves : AnyOrderServes
any_order_serves Σ s w ms o all = other_order Σ s w ms o all

pub solved_in_any_order : SolvedInAnyOrder
solved_in_any_order Σ before after s ms o all = let (w, e) = other_order Σ after s.well_formed ms o all in (record { run = s.run; keeps = s.keeps; well_formed = w; none_left = s.none_left }, e)

-- A list in which each follows what it needs is an order from behind.
member_reversed : (ms : List ℕ) (n : ℕ) → Member n ms → Member n (reverse ms)
member_reversed [] n i = absurd i
member_reversed (m ∷ ms) n (inl e) = subst (Member n) (sym (reverse-append (m ∷ []) ms)) (member_right n (reverse ms) (m ∷ []) (inl e))
member_reversed (m ∷ ms) n (inr i) = subst (Member n) (sym (reverse-append (m ∷ []) ms)) (member_left n (reverse ms) (m ∷ []) (member_reversed ms n i))

from_reversed : (ms : List ℕ) (n : ℕ) → Member n (reverse ms) → Member n ms
from_reversed ms n i = subst (Member n) (reverse-reverse ms) (member_reversed (reverse ms) n i)

pub following_is_order : FollowingIsOrder
following_is_order s ms h = from [] ms refl tt
  where
    from : (first rest : List ℕ) → ms ≡ first ++ rest → IsOrderOf s (reverse first) → IsOrderOf s (reverse ms)
    from first [] e o = subst (λ ns. IsOrderOf s (reverse ns)) (sym (e ∙ append-nil first)) o
    from first (m ∷ rest) e o =
        let (d, out, x) = h first rest m e in
        from (first ++ m ∷ []) rest (e ∙ sym (append_assoc first (m ∷ []) rest)) (subst (IsOrderOf s) (sym (reverse-append first (m ∷ []))) (
          d,
          (λ i. out (from_reversed first m i)),
          record {
            in_type = λ A q. in_weaker_type (λ n. Member n first) (λ n. Member n (reverse first)) (member_reversed first) A (x.in_type A q);
            in_value = λ N i. in_weaker (λ n. Member n first) (λ n. Member n (reverse first)) (member_reversed first) N (x.in_value N i);
          },
          o,
        ))

-- The worked store has only the metavariables of these numbers.
only : (m : ℕ) (ms : List ℕ) (A : LfType) → four_store.metavariables m ≡ Some A → MetavariablesInType (λ n. Member n ms) A → MentionsOnly four_store m ms
only m ms A e t = record { in_type = λ B q. subst (MetavariablesInType (λ n. Member n ms)) (some_same (sym e ∙ q)) t; in_value = λ N i. value N i }
  where
    value : (N : Term) → Member (record { of = m; value = N }) four_store.bindings → MetavariablesIn (λ n. Member n ms) N
    value N (inl q) = subst (MetavariablesIn (λ n. Member n ms)) (sym (ap (λ (b : Binding). b.value) q)) tt
    value N (inr i) = absurd i

all_four : HasAll four_store (3 ∷ 1 ∷ 2 ∷ 0 ∷ [])
all_four zero A e = inr (inr (inr (inl refl)))
all_four (suc zero) A e = inr (inl refl)
all_four (suc (suc zero)) A e = inr (inr (inl refl))
all_four (suc (suc (suc zero))) A e = inl refl
all_four (suc (suc (suc (suc m)))) A e = absurd cc

-- This tests that a number isn't in a list.
abbrev is_apart : ℕ → List ℕ → Bool
is_apart m [] = true
is_apart m (n ∷ ns) = cond (same_number m n) false (is_apart m ns)

apart : (m : ℕ) (ms : List ℕ) → is_apart m ms ≡ true → Member m ms → ⊥
apart m [] e i = i
apart m (n ∷ ns) e (inl q) = true≢false (sym e ∙ ap (λ b. cond b false (is_apart m ns)) (ap (same_number m) (sym q) ∙ number_itself m))
apart m (n ∷ ns) e (inr i) = apart m ns (rest (same_number m n) e) i
  where
    rest : (b : Bool) → cond b false (is_apart m ns) ≡ true → is_apart m ns ≡ true
    rest true e = absurd (true≢false (sym e))
    rest false e = e

front : (m : ℕ) (ms : List ℕ) (A : LfType) → four_store.metavariables m ≡ Some A → is_apart m ms ≡ true → MetavariablesInType (λ n. Member n ms) A → IsOrderOf four_store ms → IsOrderOf four_store (m ∷ ms)
front m ms A e a t o = ((A, e), apart m ms a, only m ms A e t, o)

last : IsOrderOf four_store (0 ∷ [])
last = front 0 [] _ refl refl tt tt

pub four_have_two_orders : FourHaveTwoOrders
four_have_two_orders = (
  front 3 (2 ∷ 1 ∷ 0 ∷ []) _ refl refl ((inl refl, ((inr (inl refl), tt), tt)), tt) (front 2 (1 ∷ 0 ∷ []) _ refl refl (((inr (inl refl), tt), tt), tt) (front 1 (0 ∷ []) _ refl refl ((inl refl, tt), tt) last)),
  front 3 (1 ∷ 2 ∷ 0 ∷ []) _ refl refl ((inr (inl refl), ((inl refl, tt), tt)), tt) (front 1 (2 ∷ 0 ∷ []) _ refl refl ((inr (inl refl), tt), tt) (front 2 (0 ∷ []) _ refl refl (((inl refl, tt), tt), tt) last)),
  all_four,
  by,
)
  where
    by : IsOrderOf four_store (1 ∷ 3 ∷ 2 ∷ 0 ∷ []) → ⊥
    by (d, out, x, (d', out', y, o)) = apart 1 (2 ∷ 0 ∷ []) refl (y.in_type (on_one 2 (root (metavariable 2) (app (root (metavariable 1) nil) nil))) refl).0.1.0.0
