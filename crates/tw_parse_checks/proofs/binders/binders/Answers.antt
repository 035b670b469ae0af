use Rattle.std.proofs.Common.{[], sym, subst}
use Rattle.std.proofs.lemmas.Result.{err_from_is_err_and}
use Rattle.tw_parse.proofs.Stopping.{exits}
use Rattle.tw_parse_checks.specs.Parts.{Begins, BinderFault, TellAll}
use Rattle.tw_parse_checks.specs.Shapes.{no_more}
use Rattle.tw_parse_checks.proofs.Forms.{it_is_some}
use Rattle.tw_parse_checks.proofs.Sources.{binder_stops, one_bare, one_typed}
use Rattle.tw_parse_checks.proofs.binders.binders.Goals as goal

pub binders-init : goal.binders-init
binders-init c = ([], no_more, (c.new.ensures.items, subst (TellAll []) (sym c.new-2.ensures.items) tt))

pub binders-preserved-then-typed : goal.binders-preserved-then-typed
binders-preserved-then-typed c =
    let source = c.args.source.now in
    let at = c.binders.upto in
    let opens = subst (Begins source at) c.if-typed.true (it_is_some c.begins.result c.in-Some.typed _ _ c.in-Some.is c.begins.ensures.binder) in
    one_typed source c.args.from at c.in_ok-domain.end c.binders.bound c.bind.new.bound (record { name = c.in_ok-name.name; at = c.place.result }) c.in_ok-domain.domain c.binders.invariant opens c.in_ok-domain.ensures.reads c.in_ok-name.ensures c.place.ensures
    c.in_ok-bind.ensures.variables c.in_ok-bind.ensures.domains

pub binders-preserved : goal.binders-preserved
binders-preserved c =
    let source = c.args.source.now in
    let at = c.binders.upto in
    let bare = subst (Begins source at) c.if-typed.false (it_is_some c.begins.result c.in-Some.typed _ _ c.in-Some.is c.begins.ensures.binder) in
    one_bare source c.args.from at c.binders.bound c.bind-else-typed.new.bound (record { name = c.in_ok-name.name; at = c.place.result }) c.binders.invariant bare c.in_ok-name.ensures c.place.ensures c.in_ok-bind-2.ensures.variables
    c.in_ok-bind-2.ensures.domains

pub returns-in_err-domain-clause-fault : goal.returns-in_err-domain-clause-fault
returns-in_err-domain-clause-fault c =
    let source = c.args.source.now in
    let at = c.binders.upto in
    let p = err_from_is_err_and c.from_residual-in_err-domain.result c.from_residual-in_err-domain.ensures.1 in
    let f = c.in_err-domain.field-0.0 in
    let opens = subst (Begins source at) c.if-typed.true (it_is_some c.begins.result c.in-Some.typed _ _ c.in-Some.is c.begins.ensures.binder) in
    exits c.from_residual-in_err-domain.result p.0 f (BinderFault source c.args.from) p.1 p.2 (binder_stops source c.args.from at c.binders.bound f c.binders.invariant opens c.in_err-domain.ensures.fault)
