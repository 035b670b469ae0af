use Rattle.tw_clause.specs.Orders.{order_of}
use Rattle.tw_order.specs.Components.{order_size, orders_in, orders_size}
use Rattle.tw_order.proofs.orders.+same.Given as goal

abbrev pub decreases-same : goal.decreases-same
decreases-same l = order_size (order_of l.one.now)

abbrev pub decreases-all_same : goal.decreases-all_same
decreases-all_same l = orders_size (orders_in l.ones.now)
