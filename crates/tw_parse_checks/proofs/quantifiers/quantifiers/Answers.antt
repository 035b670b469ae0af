use Rattle.std.proofs.Common.{[], sym, subst}
use Rattle.std.proofs.lemmas.Result.{err_from_is_err_and}
use Rattle.tw_parse.proofs.Stopping.{exits}
use Rattle.tw_parse_checks.specs.Parts.{TellAll, TypeFault}
use Rattle.tw_parse_checks.specs.Shapes.{no_more}
use Rattle.tw_parse_checks.proofs.Sources.{a_head_stands, one_quantified, type_stops}
use Rattle.tw_parse_checks.proofs.quantifiers.quantifiers.Goals as goal

pub variables-init : goal.variables-init
variables-init c = ([], no_more, c.new.ensures.items, c.new-2.ensures.items, subst (TellAll []) (sym c.new-3.ensures.items) tt)

pub variables-preserved : goal.variables-preserved
variables-preserved c =
    let source = c.args.source.now in
    let head = a_head_stands source c.variables.upto c.head.result c.in-Some.mark c.in-Some.is c.head.ensures.head in
    one_quantified source c.args.from c.variables.upto c.in_ok-domain.end c.variables.quantified c.add.new.quantified c.in-Some.mark (record { name = c.in_ok-name.name; at = c.place-at.result }) c.in_ok-domain.domain c.variables.invariant head
    c.in_ok-name.ensures c.place-at.ensures c.in_ok-domain.ensures.reads c.in_ok-add.ensures.marks c.in_ok-add.ensures.variables c.in_ok-add.ensures.domains

pub returns-in_err-domain-clause-fault : goal.returns-in_err-domain-clause-fault
returns-in_err-domain-clause-fault c =
    let source = c.args.source.now in
    let p = err_from_is_err_and c.from_residual-in_err-domain.result c.from_residual-in_err-domain.ensures.1 in
    let f = c.in_err-domain.field-0.0 in
    let head = a_head_stands source c.variables.upto c.head.result c.in-Some.mark c.in-Some.is c.head.ensures.head in
    exits c.from_residual-in_err-domain.result p.0 f (TypeFault source c.args.from) p.1 p.2 (type_stops source c.args.from c.variables.upto c.variables.quantified c.in-Some.mark f c.variables.invariant head c.in_err-domain.ensures.fault)
