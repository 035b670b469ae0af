use Rattle.std.proofs.Common.{◌∙◌, ap, arith}
use Rattle.tw_clause.specs.Orders.{order_of}
use Rattle.tw_clause.proofs.OrderViews.{order_of-Lex, order_of-Simul}
use Rattle.tw_terms.specs.View.{type_of}
use Rattle.tw_order.specs.Components.{order_size, orders_in, orders_size}
use Rattle.tw_order.specs.Places.{IsSameAt}
use Rattle.tw_order.proofs.Ordering.{emptiness, not_same, same_none, some_there}
use Rattle.tw_order.proofs.orders.+same.Goals as goal

pub all_same-returns-then-is_empty : goal.all_same-returns-then-is_empty
all_same-returns-then-is_empty t c = same_none (IsSameAt (type_of c.args.goal.now) (type_of c.args.head.now)) c.is_empty-then-is_empty.result c.args.ones.now c.args.more.now ((emptiness c.is_empty.result c.args.ones.now c.is_empty.ensures).0 c.if-is_empty.true) (emptiness c.is_empty-then-is_empty.result c.args.more.now c.is_empty-then-is_empty.ensures)

pub all_same-returns-then-is_empty-2 : goal.all_same-returns-then-is_empty-2
all_same-returns-then-is_empty-2 t c = not_same (IsSameAt (type_of c.args.goal.now) (type_of c.args.head.now)) c.args.ones.now c.args.more.now (some_there c.is_empty.result c.args.ones.now c.is_empty.ensures c.if-is_empty.false) ((emptiness c.is_empty-2.result c.args.more.now c.is_empty-2.ensures).0 c.if-is_empty-2.true)

pub all_same-same-requires : goal.all_same-same-requires
all_same-same-requires t c = let z = ap orders_size c.first.ensures in (omega (arith, z), tt)

pub all_same-all_same-requires : goal.all_same-all_same-requires
all_same-all_same-requires t c =
    let z = ap orders_size c.first.ensures in
    let y = ap (λ xs. orders_size (orders_in xs)) c.others.ensures in
    (omega (arith, z, y), tt)

pub same-all_same-requires : goal.same-all_same-requires
same-all_same-requires t c =
    let z = ap order_size (ap order_of c.in-Lex.is ∙ order_of-Lex c.in-Lex.ones) in
    let y = ap (λ xs. orders_size (orders_in xs)) c.deref.ensures.value in
    (omega (arith, z, y), tt)

pub same-all_same-requires-in-Simul-other : goal.same-all_same-requires-in-Simul-other
same-all_same-requires-in-Simul-other t c =
    let z = ap order_size (ap order_of c.in-Simul.is ∙ order_of-Simul c.in-Simul.ones) in
    let y = ap (λ xs. orders_size (orders_in xs)) c.deref-in-Simul-other.ensures.value in
    (omega (arith, z, y), tt)
