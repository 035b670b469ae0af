use Rattle.std.proofs.Common.{◌∙◌, ap, arith, map, subst}
use Rattle.std.specs.Prelude.{◌⊎◌, ◌↔◌}
use Rattle.tw_terms.specs.View.{type_of}
use Rattle.tw_order.specs.Calls.{IsEqualTo}
use Rattle.tw_order.specs.Leading.{HasEdge}
use Rattle.tw_order.specs.Listing.{clause_in}
use Rattle.tw_order.proofs.Calling.{Among, among_all, among_more}
use Rattle.tw_order.proofs.calls.add_calls.Goals as goal

pub loop-goal-preserved : goal.loop-goal-preserved
loop-goal-preserved c = λ a b. among_more type_of (λ A. IsEqualTo c.args.group.now (clause_in c.args.clause.now) A a b) (HasEdge c.add_call.new.edges.items a b) (HasEdge c.loop-goal.edges.items a b) (HasEdge c.args.edges.now.items a b) c.deref-goal-items.result.now c.loop-goal.goal-index c.goal-item.result (omega arith) c.goal-item.is (c.in_ok-add_call.ensures a b) (c.loop-goal.invariant a b)

pub returns : goal.returns
returns c = λ a b. subst (λ ys. HasEdge c.loop-goal.edges.items a b ↔ (HasEdge c.args.edges.now.items a b ⊎ Among type_of (λ A. IsEqualTo c.args.group.now (clause_in c.args.clause.now) A a b) ys)) (ap (map type_of) c.deref-goal-items.ensures.value ∙ c.in_ok-goals.ensures) (among_all type_of (λ A. IsEqualTo c.args.group.now (clause_in c.args.clause.now) A a b) (HasEdge c.loop-goal.edges.items a b) (HasEdge c.args.edges.now.items a b) c.deref-goal-items.result.now c.loop-goal.goal-index (omega arith) (c.loop-goal.invariant a b))
