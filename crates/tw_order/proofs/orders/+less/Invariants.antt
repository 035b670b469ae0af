use Rattle.std.proofs.Common.{◌+◌, ◌*◌}
use Rattle.tw_clause.specs.Orders.{order_of}
use Rattle.tw_order.specs.Components.{order_size, orders_in, orders_size}
use Rattle.tw_order.proofs.orders.+less.Given as goal

abbrev pub decreases-less : goal.decreases-less
decreases-less l = 2 * order_size (order_of l.one.now)

abbrev pub decreases-less_or_same : goal.decreases-less_or_same
decreases-less_or_same l = 2 * order_size (order_of l.one.now) + 1

abbrev pub decreases-less_lexicographic : goal.decreases-less_lexicographic
decreases-less_lexicographic l = 2 * orders_size (orders_in l.ones.now)

abbrev pub decreases-less_simultaneous : goal.decreases-less_simultaneous
decreases-less_simultaneous l = 2 * orders_size (orders_in l.ones.now)

abbrev pub decreases-none_greater : goal.decreases-none_greater
decreases-none_greater l = 2 * orders_size (orders_in l.ones.now)
