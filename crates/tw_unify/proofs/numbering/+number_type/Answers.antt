use Rattle.std.proofs.Common.{◌≡◌, arith}
use Rattle.lf.specs.Syntax.{pi}
use Rattle.tw_terms.specs.OpenView.{open_type_of}
use Rattle.tw_terms.specs.declared.open_terms.OpenTy.{Pi}
use Rattle.tw_terms.proofs.OpenArgs.{open_types}
use Rattle.tw_unify.specs.Showing.{NeedsType}
use Rattle.tw_unify.proofs.Ordering.{pi_done, pi_grown, type_stays}
use Rattle.tw_unify.proofs.numbering.+number_type.Goals as goal

pub returns-in_ok-new-in-Pi-2-clause-numbered : goal.returns-in_ok-new-in-Pi-2-clause-numbered
returns-in_ok-new-in-Pi-2-clause-numbered t c =
    let X = open_type_of c.deref.result.now in
    let Y = open_type_of c.deref-in-Pi.result.now in
    let X' = open_type_of c.in_ok-domain-in-Pi.domain in
    let Y' = open_type_of c.in_ok-range-in-Pi.range in
    let ys = c.number_type.new.order.items in
    let zs = c.number_type-in-Pi.new.order.items in
    let e : open_type_of c.args.ty.now ≡ pi X Y = grind (arith, open_types) in
    let f : open_type_of (Pi c.in_ok-new-in-Pi.field-0 c.in_ok-new-in-Pi-2.field-0) ≡ pi X' Y' = grind (arith, open_types) in
    pi_done zs (open_type_of c.args.ty.now) _ X Y X' Y' e f (type_stays (NeedsType Y) ys zs c.in_ok-range-in-Pi.ensures.grown X X' c.in_ok-domain-in-Pi.ensures.numbered) c.in_ok-range-in-Pi.ensures.numbered

pub returns-in_ok-new-in-Pi-2-clause-grown : goal.returns-in_ok-new-in-Pi-2-clause-grown
returns-in_ok-new-in-Pi-2-clause-grown t c =
    let X = open_type_of c.deref.result.now in
    let Y = open_type_of c.deref-in-Pi.result.now in
    let e : open_type_of c.args.ty.now ≡ pi X Y = grind (arith, open_types) in
    pi_grown c.args.order.now.items c.number_type.new.order.items c.number_type-in-Pi.new.order.items (open_type_of c.args.ty.now) X Y e c.in_ok-domain-in-Pi.ensures.grown c.in_ok-range-in-Pi.ensures.grown
