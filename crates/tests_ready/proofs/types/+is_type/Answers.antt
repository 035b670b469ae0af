use Rattle.std.proofs.Common.{arith, rules}
use Rattle.lf.specs.Entries.{signature_of}
use Rattle.tw_putting.specs.Stores.{types_of}
use Rattle.tw_terms.specs.OpenView.{open_type_of}
use Rattle.tw_terms.proofs.OpenArgs.{open_types}
use Rattle.tests_ready.specs.Checked.{IsTypeTyped}
use Rattle.tests_ready.proofs.TypedTerms.{at_true, inside_stands, typed_skeletons}
use Rattle.tests_ready.proofs.types.+is_type.Goals as goal

pub is_type-requires-in-Pi : goal.is_type-requires-in-Pi
is_type-requires-in-Pi t c =
    let Σ = signature_of c.args.signature.now in
    let Ψ = types_of c.args.store.now.now in
    let D = c.args.context.now in
    let A = open_type_of c.in-Pi.domain.value in
    let a : IsTypeTyped Σ Ψ c.args.limit D A = at_true c.in_ok-is_type-in-Pi.field-0 (IsTypeTyped Σ Ψ c.args.limit D A) c.if-not-branch.false (search rules) in
    (grind (arith, open_types), (c.requires.canonical, inside_stands Σ Ψ c.args.limit D c.in_ok-inner-in-Pi.inner A c.requires.stands (typed_skeletons Σ Ψ c.args.limit D A a) (search rules)))
