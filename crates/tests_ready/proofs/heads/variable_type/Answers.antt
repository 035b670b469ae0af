use Rattle.std.proofs.Common.{◌≡◌, suc, [], arith}
use Rattle.lf.specs.Entries.{signature_of}
use Rattle.tw_terms.specs.OpenView.{open_type_of}
use Rattle.tests_ready.proofs.TypedHeads.{variable_typed}
use Rattle.tests_ready.proofs.heads.variable_type.Goals as goal

pub returns-in_ok-shift_type-in-Some : goal.returns-in_ok-shift_type-in-Some
returns-in_ok-shift_type-in-Some c =
    let by : c.in_ok-by-in-Some.by ≡ suc c.args.variable = grind arith in
    variable_typed (signature_of []) c.args.context.now c.args.variable c.in_ok-by-in-Some.by (open_type_of c.in-Some.ty.now) (open_type_of c.in_ok-shift_type-in-Some.field-0) by c.in-Some.ensures c.in_ok-shift_type-in-Some.ensures
