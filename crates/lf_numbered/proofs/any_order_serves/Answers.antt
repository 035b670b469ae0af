use Rattle.lf_numbered.proofs.Orders.{any_order_serves, following_is_order, four_have_two_orders, own_order_is_one_of, solved_in_any_order}
use Rattle.lf_numbered.proofs.any_order_serves.Goals as goal

pub returns-clause-own : goal.returns-clause-own
returns-clause-own c = own_order_is_one_of

pub returns-clause-any : goal.returns-clause-any
returns-clause-any c = any_order_serves

pub returns-clause-solved : goal.returns-clause-solved
returns-clause-solved c = solved_in_any_order

pub returns-clause-following : goal.returns-clause-following
returns-clause-following c = following_is_order

pub returns-clause-four : goal.returns-clause-four
returns-clause-four c = four_have_two_orders
