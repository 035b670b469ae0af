use Rattle.std.proofs.Common.{◌≡◌, ◌≤◌, ◌++◌, suc, List, sym, ap, ◌∙◌, subst, map, drop, length, slice_get, None}
use Rattle.lf_checks.specs.Marks.{input_places}
use Rattle.tw_clause.specs.Orders.{order_of}
use Rattle.tw_clause.specs.View.{mark_of}
use Rattle.tw_parse.specs.declared.decl.ExtName.{ExtName}
use Rattle.tw_decl.specs.Steps.{IsOrderAt}
use Rattle.tw_decl.specs.Termination.{place_of}
use Rattle.tw_decl.proofs.Ordered.{Decide, all_at, all_made, component, decide_off, left_first, made_each, made_lex, made_simul, off_each, off_lex, off_simul}
use Rattle.tw_decl.proofs.orders.+order_at.Goals as goal

pub returns-then-is_input : goal.returns-then-is_input
returns-then-is_input t c =
    let m = input_places (map mark_of c.args.marks.now) in
    let n = suc c.args.implicit in
    let p = c.place_of-place.result in
    let e : p ≡ place_of n c.args.names.now (slice_get c.in-Each.variables.items c.args.number) = c.place_of-place.ensures ∙ ap (place_of n c.args.names.now) (c.variable.ensures ∙ ap (λ (xs : List ExtName). slice_get xs c.args.number) c.deref.ensures.value) in
    made_each m c.args.number n c.args.names.now c.args.order.now c.in-Each.variables p c.in-Each.is e (sym c.is_input.ensures ∙ c.if-is_input.true)

pub returns-else-is_input : goal.returns-else-is_input
returns-else-is_input t c =
    let m = input_places (map mark_of c.args.marks.now) in
    let n = suc c.args.implicit in
    let p = c.place_of-place.result in
    let e : p ≡ place_of n c.args.names.now (slice_get c.in-Each.variables.items c.args.number) = c.place_of-place.ensures ∙ ap (place_of n c.args.names.now) (c.variable.ensures ∙ ap (λ (xs : List ExtName). slice_get xs c.args.number) c.deref.ensures.value) in
    off_each m c.args.number n c.args.names.now c.args.order.now c.in-Each.variables p c.in-Each.is e (sym c.is_input.ensures ∙ c.if-is_input.false)

pub returns-in-None : goal.returns-in-None
returns-in-None t c =
    let m = input_places (map mark_of c.args.marks.now) in
    let P = component m c.args.number (suc c.args.implicit) c.args.names.now in
    let i = c.loop-component.component-index in
    let x = c.component-item.result in
    let all = c.in-Lex.components.items in
    let d : Decide m (map P (drop i all)) (map P all) = subst (λ xs. Decide m (map P (drop i xs)) (map P xs)) c.deref-component-items.ensures.value c.loop-component.invariant.decide in
    let off : IsOrderAt m (P x) None = subst (IsOrderAt m (P x)) c.in-None.is c.in_ok-order-in-Lex.ensures in
    off_lex m c.args.number (suc c.args.implicit) c.args.names.now c.args.order.now c.in-Lex.components c.in-Lex.is
    (decide_off m (P x) (map P (drop i all)) (map P (drop (suc i) all)) (map P all) (left_first P c.deref-component-items.result.now all i x c.deref-component-items.ensures.value c.loop-component-test.true c.component-item.is) off d)

pub returns-after-loop-component : goal.returns-after-loop-component
returns-after-loop-component t c =
    let m = input_places (map mark_of c.args.marks.now) in
    let P = component m c.args.number (suc c.args.implicit) c.args.names.now in
    let i = c.loop-component.component-index in
    let all = c.in-Lex.components.items in
    let v = c.loop-component.orders in
    let d : Decide m (map P (drop i all)) (map P all) = subst (λ xs. Decide m (map P (drop i xs)) (map P xs)) c.deref-component-items.ensures.value c.loop-component.invariant.decide in
    let made : map order_of v.items ++ map P (drop i all) ≡ map P all = subst (λ xs. map order_of v.items ++ map P (drop i xs) ≡ map P xs) c.deref-component-items.ensures.value c.loop-component.invariant.made in
    let past : length all ≤ i = subst (λ xs. length xs ≤ i) c.deref-component-items.ensures.value c.loop-component-test.false in
    made_lex m c.args.number (suc c.args.implicit) c.args.names.now c.args.order.now c.in-Lex.components v c.in-Lex.is (all_made P order_of all v.items i past made) (all_at m P all i past d)

pub returns-in-None-2 : goal.returns-in-None-2
returns-in-None-2 t c =
    let m = input_places (map mark_of c.args.marks.now) in
    let P = component m c.args.number (suc c.args.implicit) c.args.names.now in
    let i = c.loop-component-2.component-index in
    let x = c.component-item-in-loop-component-2.result in
    let all = c.in-Simul.components.items in
    let d : Decide m (map P (drop i all)) (map P all) = subst (λ xs. Decide m (map P (drop i xs)) (map P xs)) c.deref-component-items-in-Simul.ensures.value c.loop-component-2.invariant.decide in
    let off : IsOrderAt m (P x) None = subst (IsOrderAt m (P x)) c.in-None-2.is c.in_ok-order-in-Simul.ensures in
    off_simul m c.args.number (suc c.args.implicit) c.args.names.now c.args.order.now c.in-Simul.components c.in-Simul.is
    (decide_off m (P x) (map P (drop i all)) (map P (drop (suc i) all)) (map P all) (left_first P c.deref-component-items-in-Simul.result.now all i x c.deref-component-items-in-Simul.ensures.value c.loop-component-2-test.true c.component-item-in-loop-component-2.is) off d)

pub returns-after-loop-component-2 : goal.returns-after-loop-component-2
returns-after-loop-component-2 t c =
    let m = input_places (map mark_of c.args.marks.now) in
    let P = component m c.args.number (suc c.args.implicit) c.args.names.now in
    let i = c.loop-component-2.component-index in
    let all = c.in-Simul.components.items in
    let v = c.loop-component-2.orders in
    let d : Decide m (map P (drop i all)) (map P all) = subst (λ xs. Decide m (map P (drop i xs)) (map P xs)) c.deref-component-items-in-Simul.ensures.value c.loop-component-2.invariant.decide in
    let made : map order_of v.items ++ map P (drop i all) ≡ map P all = subst (λ xs. map order_of v.items ++ map P (drop i xs) ≡ map P xs) c.deref-component-items-in-Simul.ensures.value c.loop-component-2.invariant.made in
    let past : length all ≤ i = subst (λ xs. length xs ≤ i) c.deref-component-items-in-Simul.ensures.value c.loop-component-2-test.false in
    made_simul m c.args.number (suc c.args.implicit) c.args.names.now c.args.order.now c.in-Simul.components v c.in-Simul.is (all_made P order_of all v.items i past made) (all_at m P all i past d)
