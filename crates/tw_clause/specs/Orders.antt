-- The plain order that an order of the program stands for.
use Rattle.std.specs.Prelude.{List, [], ◌∷◌, map}
use Rattle.lf_checks.specs.Order as lf
use Rattle.tw_clause.specs.declared.order.Order.{Order, fold-Order}
use Rattle.tw_clause.specs.declared.order.Order.TheOpen.{Order-F}

-- the components in their order
abbrev pub orders_from : List lf.Order → lf.Orders
orders_from [] = lf.no_order
orders_from (o ∷ os) = lf.next_order o (orders_from os)

-- one level of an order, with each component already seen
abbrev pub order_step : Order-F lf.Order → lf.Order
order_step (Order-F.Arg k) = lf.place k
order_step (Order-F.Lex os) = lf.lexicographic (orders_from os.items)
order_step (Order-F.Simul os) = lf.simultaneous (orders_from os.items)

unfoldable pub order_of : Order → lf.Order
order_of = fold-Order lf.Order order_step
