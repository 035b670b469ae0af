use Rattle.std.proofs.Common.{◌++◌, ◌<◌, ap, sym, ◌∙◌, subst, arith}
use Rattle.lf.specs.AtOnce.{shift_by}
use Rattle.lf.specs.Depth.{type_depth}
use Rattle.lf.specs.Syntax.{rename_type}
use Rattle.lf.specs.Typing.{TypeAt}
use Rattle.tw_terms.specs.View.{type_of}
use Rattle.tw_terms.proofs.Views.{head_of-Var}
use Rattle.tw_kernel.proofs.Variables.{variable_found, variable_missing, deep_variable}
use Rattle.tw_kernel.proofs.heads.head_type.Goals as goal

pub returns-then-depth-gt-DEPTH_LIMIT : goal.returns-then-depth-gt-DEPTH_LIMIT
returns-then-depth-gt-DEPTH_LIMIT c =
    let deep : 4096 < type_depth (type_of c.in-Some-type_in.ty.now) = omega arith in
    rw (c.in-Var.is, head_of-Var) (deep_variable (c.args.inner.now ++ c.args.outer.now) c.in-Var.variable 4096 (type_of c.in-Some-type_in.ty.now) (sym c.in-Some-type_in.ensures) deep)

pub returns-in_ok-weaken-in-Some-type_in : goal.returns-in_ok-weaken-in-Some-type_in
returns-in_ok-weaken-in-Some-type_in c =
    let moved = c.in_ok-weaken-in-Some-type_in.ensures ∙ ap (λ n. rename_type (shift_by n) (type_of c.in-Some-type_in.ty.now)) c.in_ok-one_more-in-Some-type_in.ensures in
    rw (c.in-Var.is, head_of-Var) (subst (TypeAt (c.args.inner.now ++ c.args.outer.now) c.in-Var.variable) (sym moved) (variable_found (c.args.inner.now ++ c.args.outer.now) c.in-Var.variable (type_of c.in-Some-type_in.ty.now) (sym c.in-Some-type_in.ensures)))

pub returns-in-None-type_in : goal.returns-in-None-type_in
returns-in-None-type_in c = rw (c.in-Var.is, head_of-Var) (λ (A, h). variable_missing (c.args.inner.now ++ c.args.outer.now) c.in-Var.variable A (sym c.in-None-type_in.ensures) h)
