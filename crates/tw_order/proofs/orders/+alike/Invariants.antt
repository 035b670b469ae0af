use Rattle.tw_clause.specs.Orders.{order_of}
use Rattle.tw_order.specs.Components.{order_size, orders_in, orders_size}
use Rattle.tw_order.proofs.orders.+alike.Given as goal

abbrev pub decreases-alike : goal.decreases-alike
decreases-alike l = order_size (order_of l.one.now)

abbrev pub decreases-all_alike : goal.decreases-all_alike
decreases-all_alike l = orders_size (orders_in l.ones.now)
