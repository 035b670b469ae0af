use Rattle.std.proofs.Common.{arith, map}
use Rattle.tw_order.specs.Calls.{IsEqualAmong, IsEqualIn}
use Rattle.tw_order.specs.Leading.{HasEdge}
use Rattle.tw_order.specs.Listing.{clause_in}
use Rattle.tw_order.proofs.Calling.{among_all, among_more, some_only}
use Rattle.tw_order.proofs.calls.equal_calls.Goals as goal

pub loop-clause-preserved : goal.loop-clause-preserved
loop-clause-preserved c = λ a b. among_more clause_in (λ d. IsEqualIn c.args.group.now d a b) (HasEdge c.add_calls.new.edges.items a b) (HasEdge c.loop-clause.edges.items a b) ⊥ c.args.listed.now c.loop-clause.clause-index c.clause-item.result (omega arith) c.clause-item.is (c.in_ok-add_calls.ensures a b) (c.loop-clause.invariant a b)

pub returns : goal.returns
returns c = λ a b. some_only (HasEdge c.loop-clause.edges.items a b) (IsEqualAmong c.args.group.now (map clause_in c.args.listed.now) a b) (among_all clause_in (λ d. IsEqualIn c.args.group.now d a b) (HasEdge c.loop-clause.edges.items a b) ⊥ c.args.listed.now c.loop-clause.clause-index (omega arith) (c.loop-clause.invariant a b))
