use Rattle.std.proofs.Common.{◌≡◌, ◌+◌, ◌∙◌, ap, arith, sym}
use Rattle.lf.specs.AtOnce.{lift_renaming_by}
use Rattle.lf.specs.Syntax.{rename_head, variable}
use Rattle.lf.specs.Variables.{at_variable}
use Rattle.tw_terms.specs.View.{head_of}
use Rattle.tw_terms.proofs.Views.{head_of-Var}
use Rattle.tw_order.proofs.Renamed.{put_bound, put_here, put_past}
use Rattle.tw_order.proofs.put.put_in_head.Goals as goal

pub returns-then-own-under : goal.returns-then-own-under
returns-then-own-under c =
    let h = ap head_of c.in-Var.is ∙ head_of-Var c.in-Var.own in
    head_of-Var c.in-Var.own ∙ sym (ap (rename_head (lift_renaming_by c.args.under (at_variable c.args.variable))) h ∙ put_bound c.args.under c.args.variable c.in-Var.own c.if-own-under.true)

pub returns-then-own-under-2 : goal.returns-then-own-under-2
returns-then-own-under-2 c =
    let h = ap head_of c.in-Var.is ∙ head_of-Var c.in-Var.own in
    head_of-Var _ ∙ sym (ap (rename_head (lift_renaming_by c.args.under (at_variable c.args.variable))) h ∙ put_past c.args.under c.args.variable c.in-Var.own c.if-own-under-2.true)

pub returns-in_ok-ok_or-in-Var : goal.returns-in_ok-ok_or-in-Var
returns-in_ok-ok_or-in-Var c =
    let h = ap head_of c.in-Var.is ∙ head_of-Var c.in-Var.own in
    let n : c.in_ok-ok_or-in-Var.field-0 ≡ c.args.variable + c.args.under = grind arith in
    head_of-Var _ ∙ ap variable n ∙ sym (ap (rename_head (lift_renaming_by c.args.under (at_variable c.args.variable))) h ∙ put_here c.args.under c.args.variable c.in-Var.own (omega arith))
