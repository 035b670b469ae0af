-- The components of an order, one after the other, and how much stands in them.
use Rattle.std.specs.Prelude.{ℕ, suc, ◌+◌, List, map}
use Rattle.lf_checks.specs.Order as lf
use Rattle.tw_clause.specs.Orders.{order_of, orders_from}
use Rattle.tw_clause.specs.declared.order.Order.{Order}

abbrev pub orders_in : List Order → lf.Orders
orders_in os = orders_from (map order_of os)

-- how many places and lists stand in it
abbrev mutual
  pub order_size : lf.Order → ℕ
  order_size (lf.place i) = 1
  order_size (lf.lexicographic Os) = suc (orders_size Os)
  order_size (lf.simultaneous Os) = suc (orders_size Os)

  pub orders_size : lf.Orders → ℕ
  orders_size lf.no_order = 1
  orders_size (lf.next_order O Os) = suc (order_size O + orders_size Os)
