use Rattle.std.proofs.Common.{map}
use Rattle.tw_terms.specs.View.{term_of, type_of}
use Rattle.tw_reorder.proofs.Typed.{all_reordered, first_within}
use Rattle.tw_reorder.proofs.reordering.reorder.Goals as goal

pub order-requires-clause-within : goal.order-requires-clause-within
order-requires-clause-within c = first_within c.args.context.now (type_of c.args.ty.now) (term_of c.args.term.now) (map term_of c.args.others.now) c.in_ok-first.first c.requires c.in_ok-first.ensures

pub returns : goal.returns
returns c =
    all_reordered c.args.context.now (type_of c.args.ty.now) (term_of c.args.term.now) (map term_of c.args.others.now) c.in_ok-first.first c.in_ok-order.order c.in_ok-context.context (type_of c.in_ok-ty.ty) (term_of c.in_ok-term.term) c.requires c.in_ok-first.ensures
    c.in_ok-order.ensures c.in_ok-context.ensures c.in_ok-ty.ensures c.in_ok-term.ensures
