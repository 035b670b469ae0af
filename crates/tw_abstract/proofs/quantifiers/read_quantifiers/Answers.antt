use Rattle.std.proofs.Common.{◌≡◌, Err, rules}
use Rattle.tw_abstract.proofs.Loops.{context_blamed, gathered}
use Rattle.tw_abstract.proofs.Standing.{settled_types}
use Rattle.tw_abstract.proofs.Unstuck.{has_order}
use Rattle.tw_abstract.proofs.quantifiers.read_quantifiers.Goals as goal

pub candidates-requires : goal.candidates-requires
candidates-requires c = settled_types c.args.store.now.now c.requires

pub context_of-requires : goal.context_of-requires
context_of-requires c = settled_types c.args.store.now.now c.requires

pub unwrap-positions-requires : goal.unwrap-positions-requires
unwrap-positions-requires c = has_order c.args.store.now.now _ _ _ _ _ _ _ c.requires c.in_ok-found.ensures c.metas.ensures c.in_ok-candidates.ensures c.deref.ensures.value c.in_ok-quantifier_order.ensures

pub returns-in_err-context : goal.returns-in_err-context
returns-in_err-context c =
    let f = c.in_err-context.field-0.0 in
    let q : c.from_residual-in_err-context.result ≡ Err f = search rules in
    rw q (context_blamed c.args.store.now.now _ _ _ _ _ _ _ f c.in_ok-found.ensures c.metas.ensures c.in_ok-candidates.ensures c.deref.ensures.value (rw c.unwrap-positions.ensures at c.in_ok-quantifier_order.ensures) c.metas-2.ensures c.in_err-context.ensures)

pub returns : goal.returns
returns c = gathered c.args.store.now.now _ _ _ _ _ _ _ _ c.in_ok-found.ensures c.metas.ensures c.in_ok-candidates.ensures c.deref.ensures.value (rw c.unwrap-positions.ensures at c.in_ok-quantifier_order.ensures) c.metas-2.ensures c.in_ok-context.ensures
