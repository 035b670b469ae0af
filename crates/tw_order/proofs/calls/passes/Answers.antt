use Rattle.std.proofs.Common.{◌∙◌, ap, map, sym}
use Rattle.lf.specs.Entries.{signature_of}
use Rattle.lf_checks.specs.Order.{lexicographic}
use Rattle.tw_clause.specs.Orders.{order_of, orders_from}
use Rattle.tw_clause.proofs.OrderViews.{order_of-Lex}
use Rattle.tw_terms.specs.View.{type_of}
use Rattle.tw_order.specs.Listing.{clause_in}
use Rattle.tw_order.specs.Rows.{or_empty, row_order}
use Rattle.tw_order.proofs.Calling.{fails_unlike, passes_by, passes_outside}
use Rattle.tw_order.proofs.Deciding.{on_value}
use Rattle.tw_order.proofs.calls.passes.Goals as goal

pub returns-in_default : goal.returns-in_default
returns-in_default c = λ W q. passes_outside (signature_of c.args.sig.now) W c.args.group.now c.args.edges.now (clause_in c.args.clause.now) (type_of c.args.goal.now) (ap (row_order c.args.group.now) (sym c.target.ensures) ∙ sym c.in_default.ensures)

pub or_none-caller-requires : goal.or_none-caller-requires
or_none-caller-requires c = order_of-Lex c.new.result ∙ ap (λ xs. lexicographic (orders_from (map order_of xs))) c.new.ensures.items

pub returns-then-not-alike : goal.returns-then-not-alike
returns-then-not-alike c = λ W q.
    let rows = c.args.group.now in
    let e = sym (c.in-Some.ensures ∙ ap (row_order rows) c.target.ensures) in
    let p = c.or_none-caller.ensures ∙ ap or_empty (c.order_in-2.ensures ∙ ap (row_order rows) c.target-2.ensures) in
    let O = order_of c.in-Some.callee.now in
    fails_unlike (signature_of c.args.sig.now) W rows c.args.edges.now (clause_in c.args.clause.now) (type_of c.args.goal.now) c.alike.result O O (order_of c.or_none-caller.result.now) e (sym (ap or_empty e)) p c.if-not-alike.true c.alike.ensures

pub returns : goal.returns
returns c =
    let Σ = signature_of c.args.sig.now in
    let rows = c.args.group.now in
    let cl = clause_in c.args.clause.now in
    let A = type_of c.args.goal.now in
    let e = sym (c.in-Some.ensures ∙ ap (row_order rows) c.target.ensures) in
    let p = c.or_none-caller.ensures ∙ ap or_empty (c.order_in-2.ensures ∙ ap (row_order rows) c.target-2.ensures) in
    let O = order_of c.in-Some.callee.now in
    let P = order_of c.or_none-caller.result.now in
    on_value c.descends.result _ _ (λ d x W q. passes_by Σ W rows c.args.edges.now cl A c.alike.result d O O P e (sym (ap or_empty e)) p c.if-not-alike.false c.alike.ensures q x) c.descends.ensures
