use Rattle.std.proofs.Common.{◌≡◌, ◌∙◌, ap, map, subst, sym}
use Rattle.std.specs.Prelude.{◌⊎◌, ◌↔◌}
use Rattle.lf_checks.specs.Order.{lexicographic}
use Rattle.tw_clause.specs.Orders.{order_of, orders_from}
use Rattle.tw_clause.proofs.OrderViews.{order_of-Lex}
use Rattle.tw_terms.specs.View.{type_of}
use Rattle.tw_order.specs.Calls.{IsEqualTo}
use Rattle.tw_order.specs.Leading.{HasEdge}
use Rattle.tw_order.specs.Listing.{clause_in}
use Rattle.tw_order.specs.Rows.{or_empty, row_order}
use Rattle.tw_order.proofs.Calling.{equal_added, not_called, not_equal, nothing_added, same_call}
use Rattle.tw_order.proofs.calls.add_call.Goals as goal
use Rattle.tw_order.proofs.calls.add_call.Goals.{then-same+in_ok-add_edge, else-same}

pub returns-in_default : goal.returns-in_default
returns-in_default c = λ a b. nothing_added _ _ (not_called c.args.group.now (clause_in c.args.clause.now) (type_of c.args.goal.now) (ap (row_order c.args.group.now) (sym c.target.ensures) ∙ sym c.in_default.ensures) a b)

pub or_none-caller-requires : goal.or_none-caller-requires
or_none-caller-requires c = order_of-Lex c.new.result ∙ ap (λ xs. lexicographic (orders_from (map order_of xs))) c.new.ensures.items

pub returns : goal.returns
returns c = λ a b.
    let rows = c.args.group.now in
    let cl = clause_in c.args.clause.now in
    let A = type_of c.args.goal.now in
    let e = sym (c.in-Some.ensures ∙ ap (row_order rows) c.target.ensures) in
    let p = c.or_none-caller.ensures ∙ ap or_empty (c.order_in-2.ensures ∙ ap (row_order rows) c.target-2.ensures) in
    let d = same_call rows cl A c.same.result (type_of c.in_ok-head.head) (order_of c.in-Some.callee.now) (order_of c.or_none-caller.result.now) c.in_ok-head.ensures (sym (ap or_empty e)) p c.same.ensures in
    elim c.if-same.branch [
      | then-same+in_ok-add_edge w ↦ equal_added rows cl A (order_of c.in-Some.callee.now) a b w.target-then-same.result.0 w.target-then-same-2.result.0 (HasEdge c.if-same.edges.items a b) (HasEdge c.args.edges.now.items a b) e (d.0 w.if-same.true) w.target-then-same.ensures w.target-then-same-2.ensures (subst (λ v. HasEdge v.items a b ↔ (HasEdge c.args.edges.now.items a b ⊎ ((w.target-then-same.result.0 ≡ a) × (w.target-then-same-2.result.0 ≡ b)))) (sym w.edges-is) (w.in_ok-add_edge.ensures a b))
      | else-same w ↦ subst (λ v. HasEdge v.items a b ↔ (HasEdge c.args.edges.now.items a b ⊎ IsEqualTo rows cl A a b)) (sym w.edges-is) (not_equal rows cl A 0 a b (HasEdge c.args.edges.now.items a b) c.same.result w.if-same.false d)
    ]
