-- The plain order of a value, level by level.
use Rattle.std.proofs.Common.{◌≡◌, Vec, Global, map, rules}
use Rattle.std.proofs.lemmas.Grind.{common_steps}
use Rattle.tw_parse.specs.declared.decl.ExtName.{ExtName}
use Rattle.tw_parse_checks.specs.Checks.{each, lexicographic, simultaneous, order_of, orders_from}
use Rattle.tw_parse_checks.specs.declared.check.ExtOrder.{ExtOrder, Each, Lex, Simul, the_lemmas}

pub order_of-Each : (v : Vec ExtName Global) → order_of (Each v) ≡ each v.items
unfolding order_of
order_of-Each v = search (rules, the_lemmas)

pub order_of-Lex : (v : Vec ExtOrder Global) → order_of (Lex v) ≡ lexicographic (orders_from (map order_of v.items))
unfolding order_of
order_of-Lex v = search (rules, the_lemmas)

pub order_of-Simul : (v : Vec ExtOrder Global) → order_of (Simul v) ≡ simultaneous (orders_from (map order_of v.items))
unfolding order_of
order_of-Simul v = search (rules, the_lemmas)

pub ruleset orders = (common_steps, order_of-Each, order_of-Lex, order_of-Simul)
