use Rattle.std.proofs.Common.{◌∙◌, ap, refl, subst}
use Rattle.std.specs.Prelude.{Decides}
use Rattle.lf.specs.Entries.{signature_of}
use Rattle.lf.specs.Variables.{binders, target}
use Rattle.tw_clause.specs.Orders.{order_of}
use Rattle.tw_terms.specs.View.{type_of}
use Rattle.tw_order.specs.Leading.{Leads}
use Rattle.tw_order.specs.Listing.{clause_in}
use Rattle.tw_order.proofs.Calling.{by_less, by_neither, by_same, call_stands, less_call, same_by}
use Rattle.tw_order.proofs.calls.descends.Goals as goal

pub less-requires : goal.less-requires
less-requires c =
    let A = type_of c.args.goal.now in
    call_stands (signature_of c.args.sig.now) (clause_in c.args.clause.now) A c.in_ok-inner.inner (type_of c.in_ok-head.head) c.requires.clause c.requires.goal (c.in_ok-inner.ensures ∙ ap (λ G. binders G A) c.requires.context) c.in_ok-head.ensures

pub returns-then-branch : goal.returns-then-branch
returns-then-branch c =
    let Σ = signature_of c.args.sig.now in
    let cl = clause_in c.args.clause.now in
    let A = type_of c.args.goal.now in
    let O = order_of c.args.callee.now in
    let P = order_of c.args.caller.now in
    by_less Σ cl A c.args.edges.now O P c.in_ok-less.field-0 c.if-branch.true (less_call Σ cl A c.in_ok-inner.inner c.in_ok-count_quantifiers.field-0 c.in_ok-count_quantifiers-2.field-0 c.args.clause.now.entries (type_of c.in_ok-head.head) O P c.in_ok-less.field-0 (c.in_ok-inner.ensures ∙ ap (λ G. binders G A) c.requires.context) c.in_ok-count_quantifiers.ensures c.in_ok-count_quantifiers-2.ensures refl c.in_ok-head.ensures c.in_ok-less.ensures)

pub returns-then-not-same : goal.returns-then-not-same
returns-then-not-same c =
    let Σ = signature_of c.args.sig.now in
    let cl = clause_in c.args.clause.now in
    let A = type_of c.args.goal.now in
    let O = order_of c.args.callee.now in
    let P = order_of c.args.caller.now in
    by_neither Σ cl A c.args.edges.now O P c.in_ok-less.field-0 c.same.result c.if-branch.false c.if-not-same.true (less_call Σ cl A c.in_ok-inner.inner c.in_ok-count_quantifiers.field-0 c.in_ok-count_quantifiers-2.field-0 c.args.clause.now.entries (type_of c.in_ok-head.head) O P c.in_ok-less.field-0 (c.in_ok-inner.ensures ∙ ap (λ G. binders G A) c.requires.context) c.in_ok-count_quantifiers.ensures c.in_ok-count_quantifiers-2.ensures refl c.in_ok-head.ensures c.in_ok-less.ensures) (same_by Σ cl A (type_of c.in_ok-head.head) O P c.same.result c.in_ok-head.ensures c.same.ensures)

pub returns : goal.returns
returns c =
    let Σ = signature_of c.args.sig.now in
    let cl = clause_in c.args.clause.now in
    let A = type_of c.args.goal.now in
    let O = order_of c.args.callee.now in
    let P = order_of c.args.caller.now in
    let l = subst (λ x. Decides c.in_ok-leads.field-0 (Leads c.args.edges.now x (target cl.type))) c.target.ensures (subst (λ x. Decides c.in_ok-leads.field-0 (Leads c.args.edges.now c.target.result.0 x)) c.target-2.ensures c.in_ok-leads.ensures) in
    by_same Σ cl A c.args.edges.now O P c.in_ok-less.field-0 c.same.result c.in_ok-leads.field-0 c.if-branch.false c.if-not-same.false (less_call Σ cl A c.in_ok-inner.inner c.in_ok-count_quantifiers.field-0 c.in_ok-count_quantifiers-2.field-0 c.args.clause.now.entries (type_of c.in_ok-head.head) O P c.in_ok-less.field-0 (c.in_ok-inner.ensures ∙ ap (λ G. binders G A) c.requires.context) c.in_ok-count_quantifiers.ensures c.in_ok-count_quantifiers-2.ensures refl c.in_ok-head.ensures c.in_ok-less.ensures) (same_by Σ cl A (type_of c.in_ok-head.head) O P c.same.result c.in_ok-head.ensures c.same.ensures) l
