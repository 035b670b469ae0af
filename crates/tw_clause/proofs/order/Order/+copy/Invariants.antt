use Rattle.std.proofs.Common.{◌≡◌, map, take}
use Rattle.tw_clause.specs.Orders.{order_of}
use Rattle.tw_clause.proofs.order.Order.+copy.Given as goal

abbrev pub invariant-loop-component : goal.invariant-loop-component
invariant-loop-component l = map order_of l.copies.items ≡ map order_of (take l.component-index l.component-items)

abbrev pub invariant-loop-component-2 : goal.invariant-loop-component-2
invariant-loop-component-2 l = map order_of l.copies.items ≡ map order_of (take l.component-index l.component-items)
