use Rattle.std.proofs.Common.{◌≡◌, ◌+◌, ap, arith, subst, sym, ◌∙◌}
use Rattle.lf.specs.Syntax.{variable}
use Rattle.lf_search.specs.Heads.{from_outside, own}
use Rattle.tw_terms.specs.View.{head_of}
use Rattle.tw_terms.specs.declared.canonical.Head.TheVariants.{Var}
use Rattle.tw_terms.proofs.Views.{head_of-Const, head_of-Var}
use Rattle.tw_search.specs.Clashing.{IsPlaced, constant_is, outside_is, own_is}
use Rattle.tw_search.proofs.rigid.placed.Goals as goal

pub returns-in-Const : goal.returns-in-Const
returns-in-Const c = subst (λ h. IsPlaced c.args.lambdas c.args.binders h (from_outside h)) (sym (ap head_of c.in-Const.is ∙ head_of-Const c.in-Const.field-0)) constant_is

pub returns-in-Some : goal.returns-in-Some
returns-in-Some c =
    subst (λ h. IsPlaced c.args.lambdas c.args.binders h (own c.in-Some.number)) (sym (ap head_of c.in-Var.is ∙ head_of-Var c.in-Var.variable)) (own_is c.in-Some.ensures)

pub returns-in_ok-outside-in-None : goal.returns-in_ok-outside-in-None
returns-in_ok-outside-in-None c =
    let e : c.in-Var.variable ≡ c.in_ok-outside-in-None.outside + (c.args.binders + c.args.lambdas) = grind arith in
    subst (λ h. IsPlaced c.args.lambdas c.args.binders h (from_outside (head_of (Var c.in_ok-outside-in-None.outside)))) (sym (ap head_of c.in-Var.is ∙ head_of-Var c.in-Var.variable))
    (subst (λ h. IsPlaced c.args.lambdas c.args.binders (variable c.in-Var.variable) (from_outside h)) (sym (head_of-Var c.in_ok-outside-in-None.outside)) (outside_is e))
