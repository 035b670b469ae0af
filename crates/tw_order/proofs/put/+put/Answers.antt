use Rattle.std.proofs.Common.{◌∙◌, ap, arith, sym}
use Rattle.lf.specs.AtOnce.{lift_renaming_by}
use Rattle.lf.specs.Syntax.{lambda, rename}
use Rattle.lf.specs.Variables.{at_variable}
use Rattle.tw_terms.specs.View.{term_of}
use Rattle.tw_terms.proofs.Views.{term_of-Lam}
use Rattle.tw_terms.proofs.Weakened.{under_lambda}
use Rattle.tw_order.proofs.Lists.{map_step}
use Rattle.tw_order.proofs.put.+put.Goals as goal

pub put_in_term-returns-in_ok-new-in-Lam : goal.put_in_term-returns-in_ok-new-in-Lam
put_in_term-returns-in_ok-new-in-Lam t c =
    let ρ = at_variable c.args.variable in
    let e = under_lambda c.in_ok-inside-in-Lam.inside c.args.under ρ (term_of c.in-Lam.body.value) c.in_ok-inside-in-Lam.ensures in
    term_of-Lam c.in_ok-new-in-Lam.field-0
    ∙ ap (λ x. lambda (term_of x)) c.in_ok-new-in-Lam.ensures.ok
    ∙ ap lambda (c.in_ok-body-in-Lam.ensures ∙ ap (λ x. rename (lift_renaming_by c.in_ok-inside-in-Lam.inside ρ) (term_of x)) c.deref.ensures)
    ∙ sym e
    ∙ sym (ap (λ x. rename (lift_renaming_by c.args.under ρ) (term_of x)) c.in-Lam.is ∙ ap (rename (lift_renaming_by c.args.under ρ)) (term_of-Lam c.in-Lam.body))

pub put_in_spine-loop-arg-preserved : goal.put_in_spine-loop-arg-preserved
put_in_spine-loop-arg-preserved t c = map_step term_of (λ x. rename (lift_renaming_by c.args.under (at_variable c.args.variable)) (term_of x)) c.deref-arg-items.result.now c.loop-arg.arg-index c.arg-item.result c.loop-arg.args.items c.push.new.self.items c.in_ok-put_in_term.field-0 (omega arith) c.arg-item.is c.in_ok-push.ensures.items c.in_ok-put_in_term.ensures c.loop-arg.invariant
