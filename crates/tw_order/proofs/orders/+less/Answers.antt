use Rattle.std.proofs.Common.{◌∙◌, ap, sym}
use Rattle.lf.specs.Entries.{signature_of}
use Rattle.lf_checks.specs.Order.{Less, lexicographic, next_order, place, simultaneous}
use Rattle.tw_clause.specs.Orders.{order_of}
use Rattle.tw_clause.proofs.OrderViews.{order_of-Arg, order_of-Lex, order_of-Simul}
use Rattle.tw_terms.specs.View.{type_of}
use Rattle.tw_order.specs.Components.{orders_in}
use Rattle.tw_order.specs.Places.{IsLessAt, IsSameAt}
use Rattle.tw_order.proofs.Deciding.{on_value}
use Rattle.tw_order.proofs.Ordering.{at_orders, emptiness, greater_none, lexicographic_next, none_next, simultaneous_less, simultaneous_next, some_there}
use Rattle.tw_order.proofs.orders.+less.Goals as goal

pub less-returns-in-Arg-other : goal.less-returns-in-Arg-other
less-returns-in-Arg-other t c =
    let L = IsLessAt (signature_of c.args.sig.now) c.args.call.now in
    let E = IsSameAt (type_of c.args.call.now.goal.now) (type_of c.args.call.now.head.now) in
    on_value c.smaller_places.result _ _ (λ b d. at_orders (Less L E) b (order_of c.args.one.now) (place c.in-Arg.place) (order_of c.args.other.now) (place c.in-Arg-other.other_place) (ap order_of c.in-Arg.is ∙ order_of-Arg c.in-Arg.place) (ap order_of c.in-Arg-other.is ∙ order_of-Arg c.in-Arg-other.other_place) d) c.smaller_places.ensures

pub less-returns-in-Lex-other-2 : goal.less-returns-in-Lex-other-2
less-returns-in-Lex-other-2 t c =
    let L = IsLessAt (signature_of c.args.sig.now) c.args.call.now in
    let E = IsSameAt (type_of c.args.call.now.goal.now) (type_of c.args.call.now.head.now) in
    on_value c.less_lexicographic.result _ _ (λ b d. at_orders (Less L E) b (order_of c.args.one.now) (lexicographic (orders_in c.deref.result.now)) (order_of c.args.other.now) (lexicographic (orders_in c.deref-in-Lex-other-2.result.now)) (ap order_of c.in-Lex.is ∙ order_of-Lex c.in-Lex.ones ∙ ap (λ xs. lexicographic (orders_in xs)) (sym c.deref.ensures.value)) (ap order_of c.in-Lex-other-2.is ∙ order_of-Lex c.in-Lex-other-2.more ∙ ap (λ xs. lexicographic (orders_in xs)) (sym c.deref-in-Lex-other-2.ensures.value)) d) c.less_lexicographic.ensures

pub less-returns-in-Simul-other : goal.less-returns-in-Simul-other
less-returns-in-Simul-other t c =
    let L = IsLessAt (signature_of c.args.sig.now) c.args.call.now in
    let E = IsSameAt (type_of c.args.call.now.goal.now) (type_of c.args.call.now.head.now) in
    on_value c.less_simultaneous.result _ _ (λ b d. at_orders (Less L E) b (order_of c.args.one.now) (simultaneous (orders_in c.deref-in-Simul-other.result.now)) (order_of c.args.other.now) (simultaneous (orders_in c.deref-in-Simul-other-2.result.now)) (ap order_of c.in-Simul.is ∙ order_of-Simul c.in-Simul.ones ∙ ap (λ xs. simultaneous (orders_in xs)) (sym c.deref-in-Simul-other.ensures.value)) (ap order_of c.in-Simul-other.is ∙ order_of-Simul c.in-Simul-other.more ∙ ap (λ xs. simultaneous (orders_in xs)) (sym c.deref-in-Simul-other-2.ensures.value)) d) c.less_simultaneous.ensures

pub less_lexicographic-returns : goal.less_lexicographic-returns
less_lexicographic-returns t c =
    let L = IsLessAt (signature_of c.args.sig.now) c.args.call.now in
    let E = IsSameAt (type_of c.args.call.now.goal.now) (type_of c.args.call.now.head.now) in
    let O = order_of c.first-one.result.now in
    let P = order_of c.first-other.result.now in
    let x = c.first-one.ensures ∙ ap (λ xs. next_order O (orders_in xs)) (sym c.others.ensures) in
    let y = c.first-other.ensures ∙ ap (λ xs. next_order P (orders_in xs)) (sym c.others-2.ensures) in
    on_value c.less_lexicographic.result _ _ (λ r d. lexicographic_next L E (orders_in c.args.ones.now) (orders_in c.args.more.now) (orders_in c.others.result.now) (orders_in c.others-2.result.now) O P x y c.in_ok-less.field-0 c.same.result r c.if-branch.false c.if-not-same.false c.in_ok-less.ensures c.same.ensures d) c.less_lexicographic.ensures

pub less_simultaneous-returns-then-branch : goal.less_simultaneous-returns-then-branch
less_simultaneous-returns-then-branch t c =
    let L = IsLessAt (signature_of c.args.sig.now) c.args.call.now in
    let E = IsSameAt (type_of c.args.call.now.goal.now) (type_of c.args.call.now.head.now) in
    let O = order_of c.first-one.result.now in
    let P = order_of c.first-other.result.now in
    let x = c.first-one.ensures ∙ ap (λ xs. next_order O (orders_in xs)) (sym c.others.ensures) in
    let y = c.first-other.ensures ∙ ap (λ xs. next_order P (orders_in xs)) (sym c.others-then-branch.ensures) in
    on_value c.none_greater.result _ _ (λ r d. simultaneous_less L E (orders_in c.args.ones.now) (orders_in c.args.more.now) (orders_in c.others.result.now) (orders_in c.others-then-branch.result.now) O P x y c.in_ok-less.field-0 r c.if-branch.true c.in_ok-less.ensures d) c.none_greater.ensures

pub less_simultaneous-returns : goal.less_simultaneous-returns
less_simultaneous-returns t c =
    let L = IsLessAt (signature_of c.args.sig.now) c.args.call.now in
    let E = IsSameAt (type_of c.args.call.now.goal.now) (type_of c.args.call.now.head.now) in
    let O = order_of c.first-one.result.now in
    let P = order_of c.first-other.result.now in
    let x = c.first-one.ensures ∙ ap (λ xs. next_order O (orders_in xs)) (sym c.others-2.ensures) in
    let y = c.first-other.ensures ∙ ap (λ xs. next_order P (orders_in xs)) (sym c.others-3.ensures) in
    on_value c.less_simultaneous.result _ _ (λ r d. simultaneous_next L E (orders_in c.args.ones.now) (orders_in c.args.more.now) (orders_in c.others-2.result.now) (orders_in c.others-3.result.now) O P x y c.in_ok-less.field-0 c.same.result r c.if-branch.false c.if-not-same.false c.in_ok-less.ensures c.same.ensures d) c.less_simultaneous.ensures

pub none_greater-returns : goal.none_greater-returns
none_greater-returns t c =
    let L = IsLessAt (signature_of c.args.sig.now) c.args.call.now in
    let E = IsSameAt (type_of c.args.call.now.goal.now) (type_of c.args.call.now.head.now) in
    let O = order_of c.first.result.now in
    let P = order_of c.first-2.result.now in
    let x = c.first.ensures ∙ ap (λ xs. next_order O (orders_in xs)) (sym c.others.ensures) in
    let y = c.first-2.ensures ∙ ap (λ xs. next_order P (orders_in xs)) (sym c.others-2.ensures) in
    on_value c.none_greater.result _ _ (λ r d. none_next L E (orders_in c.args.ones.now) (orders_in c.args.more.now) (orders_in c.others.result.now) (orders_in c.others-2.result.now) O P x y c.in_ok-less_or_same.field-0 r c.if-not-branch.false c.in_ok-less_or_same.ensures d) c.none_greater.ensures

pub none_greater-returns-then-is_empty-2 : goal.none_greater-returns-then-is_empty-2
none_greater-returns-then-is_empty-2 t c =
    let L = IsLessAt (signature_of c.args.sig.now) c.args.call.now in
    let E = IsSameAt (type_of c.args.call.now.goal.now) (type_of c.args.call.now.head.now) in
    greater_none L E c.args.ones.now c.args.more.now (some_there c.is_empty.result c.args.ones.now c.is_empty.ensures c.if-is_empty.false) ((emptiness c.is_empty-2.result c.args.more.now c.is_empty-2.ensures).0 c.if-is_empty-2.true)
