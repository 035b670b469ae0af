use Rattle.std.proofs.Common.{◌∙◌, ap, subst, sym}
use Rattle.lf.specs.AtOnce.{shift_by}
use Rattle.lf.specs.Syntax.{rename_type}
use Rattle.lf.specs.Typing.{TypeAt}
use Rattle.tw_kernel.proofs.Variables.{variable_found, variable_missing}
use Rattle.tw_terms.specs.View.{type_of}
use Rattle.tw_order.proofs.taking.variable_type.Goals as goal

pub returns-in_ok-weaken-in-Some : goal.returns-in_ok-weaken-in-Some
returns-in_ok-weaken-in-Some c =
    let moved = c.in_ok-weaken-in-Some.ensures ∙ ap (λ n. rename_type (shift_by n) (type_of c.in-Some.ty.now)) c.in_ok-one_more-in-Some.ensures in
    subst (TypeAt c.args.context.now c.args.variable) (sym moved) (variable_found c.args.context.now c.args.variable (type_of c.in-Some.ty.now) (sym c.in-Some.ensures))

pub returns-in-None : goal.returns-in-None
returns-in-None c = λ A h. variable_missing c.args.context.now c.args.variable A (sym c.in-None.ensures) h
