use Rattle.lf.specs.Entries.{signature_of}
use Rattle.tw_putting.specs.Stores.{types_of}
use Rattle.tw_terms.specs.OpenView.{open_type_of}
use Rattle.tests_ready.specs.Checked.{IsContextTyped, IsTypeTyped}
use Rattle.tests_ready.proofs.TypedTerms.{at_true, context_stands, typed_skeletons}
use Rattle.tests_ready.proofs.readiness.is_typed.Goals as goal

pub is_type-requires-clause-stands : goal.is_type-requires-clause-stands
is_type-requires-clause-stands c =
    let Σ = signature_of c.args.signature.now in
    let Ψ = types_of c.args.store.now.now in
    let D = c.args.equation.now.context in
    context_stands Σ Ψ c.args.count D c.requires.below (at_true c.in_ok-is_context.field-0 (IsContextTyped Σ Ψ D) c.if-not-branch.false c.in_ok-is_context.ensures)

pub has_type-requires-clause-stands : goal.has_type-requires-clause-stands
has_type-requires-clause-stands c =
    let Σ = signature_of c.args.signature.now in
    let Ψ = types_of c.args.store.now.now in
    let D = c.args.equation.now.context in
    context_stands Σ Ψ c.args.count D c.requires.below (at_true c.in_ok-is_context.field-0 (IsContextTyped Σ Ψ D) c.if-not-branch.false c.in_ok-is_context.ensures)

pub has_type-requires-clause-ty : goal.has_type-requires-clause-ty
has_type-requires-clause-ty c =
    let Σ = signature_of c.args.signature.now in
    let Ψ = types_of c.args.store.now.now in
    let D = c.args.equation.now.context in
    let A = open_type_of c.args.equation.now.ty in
    typed_skeletons Σ Ψ c.args.count D A (at_true c.in_ok-is_type.field-0 (IsTypeTyped Σ Ψ c.args.count D A) c.if-not-branch-2.false c.in_ok-is_type.ensures)

pub has_type-requires-2-clause-stands : goal.has_type-requires-2-clause-stands
has_type-requires-2-clause-stands c =
    let Σ = signature_of c.args.signature.now in
    let Ψ = types_of c.args.store.now.now in
    let D = c.args.equation.now.context in
    context_stands Σ Ψ c.args.count D c.requires.below (at_true c.in_ok-is_context.field-0 (IsContextTyped Σ Ψ D) c.if-not-branch.false c.in_ok-is_context.ensures)

pub has_type-requires-2-clause-ty : goal.has_type-requires-2-clause-ty
has_type-requires-2-clause-ty c =
    let Σ = signature_of c.args.signature.now in
    let Ψ = types_of c.args.store.now.now in
    let D = c.args.equation.now.context in
    let A = open_type_of c.args.equation.now.ty in
    typed_skeletons Σ Ψ c.args.count D A (at_true c.in_ok-is_type.field-0 (IsTypeTyped Σ Ψ c.args.count D A) c.if-not-branch-2.false c.in_ok-is_type.ensures)
