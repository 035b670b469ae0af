use Rattle.std.proofs.Common.{◌≡◌, arith}
use Rattle.lf.specs.Syntax.{pi}
use Rattle.tw_terms.specs.OpenView.{open_spine_of, open_type_of}
use Rattle.tw_terms.specs.declared.open_terms.OpenTy.TheVariants.{Pi}
use Rattle.tw_terms.specs.View.{type_of}
use Rattle.tw_search.proofs.Applied.{applied_in_product, applying}
use Rattle.tw_search.proofs.closed_placing.+closed_type_over.Goals as goal

pub returns-in_ok-new-in-Pi-2 : goal.returns-in_ok-new-in-Pi-2
returns-in_ok-new-in-Pi-2 t c =
    let A = type_of c.deref.result.now in
    let B = type_of c.deref-in-Pi.result.now in
    let X = open_type_of c.in_ok-domain-in-Pi.domain in
    let Y = open_type_of c.in_ok-range-in-Pi.range in
    let e : type_of c.args.ty.now ≡ pi A B = grind (arith, applying) in
    let r : open_type_of (Pi c.in_ok-new-in-Pi.field-0 c.in_ok-new-in-Pi-2.field-0) ≡ pi X Y = grind (arith, applying) in
    applied_in_product (open_spine_of c.args.arguments.now) c.args.metas.now c.args.binders c.in_ok-inside-in-Pi.inside (type_of c.args.ty.now) A B X Y _ c.in_ok-inside-in-Pi.ensures e c.in_ok-domain-in-Pi.ensures c.in_ok-range-in-Pi.ensures r
