use Rattle.std.proofs.Common.{arith, rules}
use Rattle.tw_putting.specs.Stores.{types_of}
use Rattle.tw_putting.proofs.Views.{type_told}
use Rattle.tw_terms.specs.OpenView.{open_type_of}
use Rattle.tw_terms.proofs.OpenArgs.{open_types}
use Rattle.tw_unify.proofs.Glancing.{bare_told}
use Rattle.tw_unify.proofs.glance.has_bare_type.Goals as goal

pub returns-in-Some-default-Atom : goal.returns-in-Some-default-Atom
returns-in-Some-default-Atom c =
    let s = c.args.store.now.now in
    let A = open_type_of c.in-Some-default-Atom.field-0-1.now in
    bare_told (types_of s) c.args.meta.0 c.is_empty.result A c.in-Some-default-Atom.field-0-1-0.0 (type_told s c.args.meta.0 c.in-Some-default-Atom.field-0-0.now A (search rules)) (λ e. grind (arith, open_types))
