use Rattle.std.proofs.Common.{◌≡◌, ◌+◌, ◌<◌, length, drop, ap, sym, ◌∙◌, arith}
use Rattle.lf.specs.Syntax.{lambda}
use Rattle.lf_unification.specs.Offering.{lambda_over}
use Rattle.tw_terms.specs.OpenView.{open_term_of}
use Rattle.tw_terms.specs.declared.open_terms.Open.TheVariants.{Lam}
use Rattle.tw_search.proofs.Offering.{lambda_step}
use Rattle.tw_open.proofs.Steps.{steps}
use Rattle.tw_search.proofs.offer.lambdas.Goals as goal

pub loop-preserved : goal.loop-preserved
loop-preserved c =
    let D = c.args.locals.now in
    let M = open_term_of c.loop.term in
    let e : open_term_of (Lam c.in_ok-new.field-0) ≡ lambda M = grind (arith, steps) in
    let h : c.loop.counter < length D = omega arith in
    c.loop.invariant ∙ sym (lambda_step D c.loop.counter M h) ∙ ap (lambda_over (drop (c.loop.counter + 1) D)) (sym e)
