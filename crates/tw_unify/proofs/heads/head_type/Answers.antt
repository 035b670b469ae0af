use Rattle.std.proofs.Common.{◌≡◌, ◌+◌, suc, arith}
use Rattle.std.proofs.lemmas.Result.{IfOk-weaker}
use Rattle.lf.specs.AtOnce.{shift_by}
use Rattle.lf.specs.Entries.{signature_of}
use Rattle.lf.specs.Syntax.{rename_type, variable}
use Rattle.tw_terms.specs.OpenView.{open_head_of, open_type_of}
use Rattle.tw_terms.proofs.OpenArgs.{open_types}
use Rattle.tw_unify.specs.Rigid.{RigidHeadHasType}
use Rattle.tw_unify.proofs.Variables.{variable_declared, variable_has_type}
use Rattle.tw_unify.proofs.heads.head_type.Goals as goal

pub unreachable-requires-in-None-get : goal.unreachable-requires-in-None-get
unreachable-requires-in-None-get c =
    let head : open_head_of c.args.head ≡ variable c.in-Var.variable = grind (arith, open_types) in
    variable_declared (signature_of c.args.signature.now) c.args.context.now (open_head_of c.args.head) c.in-Var.variable head c.in-None-get.ensures c.requires

pub returns-in-Some-get : goal.returns-in-Some-get
returns-in-Some-get c =
    let head : open_head_of c.args.head ≡ variable c.in-Var.variable = grind (arith, open_types) in
    let by : c.in-Var.variable + 1 ≡ suc c.in-Var.variable = grind arith in
    IfOk-weaker c.shift_type.result (λ a. open_type_of a ≡ rename_type (shift_by (c.in-Var.variable + 1)) (open_type_of c.in-Some-get.ty.now)) (λ a. RigidHeadHasType (signature_of c.args.signature.now) c.args.context.now (open_head_of c.args.head) (open_type_of a))
    (λ a e. variable_has_type (signature_of c.args.signature.now) c.args.context.now (open_head_of c.args.head) c.in-Var.variable (c.in-Var.variable + 1) (open_type_of c.in-Some-get.ty.now) (open_type_of a) head by c.in-Some-get.ensures e)
    c.shift_type.ensures
