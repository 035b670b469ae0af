use Rattle.std.proofs.Common.{rules}
use Rattle.tw_terms.specs.OpenView.{open_type_of}
use Rattle.tw_putting.proofs.Views.{type_told}
use Rattle.tw_abstract.proofs.typing.put_type.Goals as goal

pub put_in_type-requires : goal.put_in_type-requires
put_in_type-requires c =
    let A = open_type_of c.in-Some.ty.now in
    c.requires c.args.meta.0 A (type_told c.args.store.now.now c.args.meta.0 c.in-Some.field-0-0.now A (search rules))
