use Rattle.std.proofs.Common.{◌≡◌, arith}
use Rattle.lf.specs.Syntax.{lambda}
use Rattle.tw_terms.specs.OpenView.{open_spine_of, open_term_of}
use Rattle.tw_terms.specs.declared.open_terms.Open.TheVariants.{Lam}
use Rattle.tw_search.proofs.Applied.{applied_under_lambda, applying}
use Rattle.tw_search.proofs.placing.+over.Goals as goal

pub term_over-returns-in_ok-new-in-Lam : goal.term_over-returns-in_ok-new-in-Lam
term_over-returns-in_ok-new-in-Lam t c =
    let M = open_term_of c.deref.result.now in
    let B = open_term_of c.in_ok-body-in-Lam.body in
    let e : open_term_of c.args.term.now ≡ lambda M = grind (arith, applying) in
    let r : open_term_of (Lam c.in_ok-new-in-Lam.field-0) ≡ lambda B = grind (arith, applying) in
    applied_under_lambda (open_spine_of c.args.arguments.now) c.args.metas.now c.args.binders c.in_ok-inside-in-Lam.inside (open_term_of c.args.term.now) M B _ c.in_ok-inside-in-Lam.ensures e c.in_ok-body-in-Lam.ensures r
