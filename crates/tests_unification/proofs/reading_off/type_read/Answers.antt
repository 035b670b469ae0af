use Rattle.std.proofs.Common.{rules}
use Rattle.tw_terms.specs.OpenView.{open_type_of}
use Rattle.tw_putting.proofs.Views.{type_told}
use Rattle.tw_abstract.proofs.Standing.{declared_stands}
use Rattle.tests_unification.proofs.reading_off.type_read.Goals as goal

pub read_type-requires-clause-stands : goal.read_type-requires-clause-stands
read_type-requires-clause-stands c =
    let A = open_type_of c.in-Some.ty.now in
    declared_stands c.args.store.now.now c.requires.settled c.args.meta A (type_told c.args.store.now.now c.args.meta c.in-Some.field-0-0.now A (search rules))
