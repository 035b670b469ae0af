use Rattle.std.proofs.Common.{rules}
use Rattle.tw_terms.specs.OpenView.{open_type_of}
use Rattle.tw_unify.proofs.Shown.{type_grown}
use Rattle.tw_putting.proofs.Views.{type_told}
use Rattle.tw_unify.proofs.left.show_type.Goals as goal

pub put_in_type-requires : goal.put_in_type-requires
put_in_type-requires c =
    let A = open_type_of c.in-Some.ty.now in
    c.requires c.args.meta.0 A (type_told c.args.store.now.now c.args.meta.0 c.in-Some.field-0-0.now A (search rules))

pub returns-in_ok-number_type-in-Some-clause-grown : goal.returns-in_ok-number_type-in-Some-clause-grown
returns-in_ok-number_type-in-Some-clause-grown c =
    let s = c.args.store.now.now in
    let A = open_type_of c.in-Some.ty.now in
    type_grown s c.args.meta.0 A (open_type_of c.in_ok-put-in-Some.put) c.args.order.now.items c.number_type.new.order.items (type_told s c.args.meta.0 c.in-Some.field-0-0.now A (search rules)) c.in_ok-put-in-Some.ensures.ok c.in_ok-number_type-in-Some.ensures.grown
