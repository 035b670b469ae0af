use Rattle.std.proofs.Common.{ap, arith}
use Rattle.tw_order.specs.Components.{orders_in, orders_size}
use Rattle.tw_order.proofs.Ordering.{alike_none, emptiness, not_alike, some_there}
use Rattle.tw_order.proofs.orders.+alike.Goals as goal

pub all_alike-returns-then-is_empty : goal.all_alike-returns-then-is_empty
all_alike-returns-then-is_empty t c = alike_none c.is_empty-then-is_empty.result c.args.ones.now c.args.more.now ((emptiness c.is_empty.result c.args.ones.now c.is_empty.ensures).0 c.if-is_empty.true) (emptiness c.is_empty-then-is_empty.result c.args.more.now c.is_empty-then-is_empty.ensures)

pub all_alike-returns-then-is_empty-2 : goal.all_alike-returns-then-is_empty-2
all_alike-returns-then-is_empty-2 t c = not_alike c.args.ones.now c.args.more.now (some_there c.is_empty.result c.args.ones.now c.is_empty.ensures c.if-is_empty.false) ((emptiness c.is_empty-2.result c.args.more.now c.is_empty-2.ensures).0 c.if-is_empty-2.true)

pub all_alike-alike-requires : goal.all_alike-alike-requires
all_alike-alike-requires t c = let z = ap orders_size c.first.ensures in (omega (arith, z), tt)

pub all_alike-all_alike-requires : goal.all_alike-all_alike-requires
all_alike-all_alike-requires t c =
    let z = ap orders_size c.first.ensures in
    let y = ap (λ xs. orders_size (orders_in xs)) c.others.ensures in
    (omega (arith, z, y), tt)
