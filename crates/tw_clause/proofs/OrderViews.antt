-- The plain order of a value, level by level.
use Rattle.std.proofs.Common.{◌≡◌, ℕ, Vec, Global, List, map, rules, refl}
use Rattle.std.proofs.lemmas.Grind.{common_steps}
use Rattle.lf_checks.specs.Order.{place, lexicographic, simultaneous}
use Rattle.tw_clause.specs.Orders.{order_of, orders_from}
use Rattle.tw_clause.specs.declared.order.Order.{Order, Arg, Lex, Simul, the_lemmas}

pub order_of-Arg : (k : ℕ) → order_of (Arg k) ≡ place k
unfolding order_of
order_of-Arg k = search (rules, the_lemmas)

pub order_of-Lex : (v : Vec Order Global) → order_of (Lex v) ≡ lexicographic (orders_from (map order_of v.items))
unfolding order_of
order_of-Lex v = search (rules, the_lemmas)

pub order_of-Simul : (v : Vec Order Global) → order_of (Simul v) ≡ simultaneous (orders_from (map order_of v.items))
unfolding order_of
order_of-Simul v = search (rules, the_lemmas)

pub ruleset orders = (common_steps, order_of-Arg, order_of-Lex, order_of-Simul)
