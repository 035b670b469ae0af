use Rattle.std.proofs.Common.{◌≡◌, ◌<◌, ap, sym, Some, option_map, arith}
use Rattle.std.specs.Prelude.{IfSome}
use Rattle.std.proofs.lemmas.Option.{IfSome_then}
use Rattle.std.proofs.lemmas.Result.{IfOk-weaker}
use Rattle.lf.specs.Entries.{signature_of}
use Rattle.lf.specs.Syntax.{constant, metavariable, variable}
use Rattle.lf.proofs.Entries.{canonical_is_signature}
use Rattle.tw_metas.specs.State.{Declaration}
use Rattle.tw_terms.specs.OpenView.{open_head_of, open_type_of}
use Rattle.tw_terms.specs.View.{type_of}
use Rattle.tw_terms.proofs.OpenArgs.{open_types}
use Rattle.tw_putting.specs.Stores.{types_of}
use Rattle.tests_ready.specs.Checked.{HeadIsTyped, VariableHasType}
use Rattle.tests_ready.proofs.TypedHeads.{constant_head, metavariable_head, variable_head}
use Rattle.tests_ready.proofs.heads.head_type.Goals as goal

pub returns-in_ok-open_type-in-Some : goal.returns-in_ok-open_type-in-Some
returns-in_ok-open_type-in-Some c =
    let e : open_head_of c.args.head ≡ constant c.in-Const.id.0 = grind (arith, open_types) in
    constant_head (signature_of c.args.signature.now) (types_of c.args.store.now.now) (canonical_is_signature c.args.signature.now c.requires.canonical) c.args.limit c.args.context.now (open_head_of c.args.head) c.in-Const.id.0 (type_of c.in-Some.ty.now) (open_type_of c.in_ok-open_type-in-Some.field-0) c.requires.stands e c.in-Some.ensures c.in_ok-open_type-in-Some.ensures

pub returns-in-Var : goal.returns-in-Var
returns-in-Var c =
    let e : open_head_of c.args.head ≡ variable c.in-Var.variable = grind (arith, open_types) in
    IfOk-weaker c.variable_type.result (λ r. IfSome r (λ a. VariableHasType c.args.context.now c.in-Var.variable (open_type_of a))) (λ r. IfSome r (λ a. HeadIsTyped (signature_of c.args.signature.now) (types_of c.args.store.now.now) c.args.limit c.args.context.now (open_head_of c.args.head) (open_type_of a)))
    (λ r p. IfSome_then r p (λ a q. variable_head (signature_of c.args.signature.now) (types_of c.args.store.now.now) c.args.limit c.args.context.now (open_head_of c.args.head) c.in-Var.variable (open_type_of a) c.requires.stands e q))
    c.variable_type.ensures

pub returns-in_ok-copy-in-Some-about : goal.returns-in_ok-copy-in-Some-about
returns-in_ok-copy-in-Some-about c =
    let e : open_head_of c.args.head ≡ metavariable c.in-Meta.meta.0 = grind (arith, open_types) in
    let l : c.in-Meta.meta.0 < c.args.limit = omega (arith, c.if-meta-limit.false) in
    let d : types_of c.args.store.now.now c.in-Meta.meta.0 ≡ Some (open_type_of c.in-Some-about.ty.now) = ap (option_map (λ (d : Declaration). d.of_type)) (sym c.in-Some-about.ensures) in
    metavariable_head (signature_of c.args.signature.now) (types_of c.args.store.now.now) c.args.limit c.args.context.now (open_head_of c.args.head) c.in-Meta.meta.0 (open_type_of c.in-Some-about.ty.now) (open_type_of c.in_ok-copy-in-Some-about.field-0) c.requires.stands e l d c.in_ok-copy-in-Some-about.ensures
