use Rattle.std.proofs.Common.{◌≡◌, arith}
use Rattle.lf.specs.Syntax.{lambda}
use Rattle.tw_terms.specs.OpenView.{open_term_of}
use Rattle.tw_terms.specs.View.{term_of}
use Rattle.tw_terms.specs.declared.open_terms.Open.TheVariants.{Lam}
use Rattle.tw_search.proofs.Rooting.{heads_under_lambda, rooting}
use Rattle.tw_search.proofs.root.+over.Goals as goal

pub term_over-returns-in_ok-new-in-Lam : goal.term_over-returns-in_ok-new-in-Lam
term_over-returns-in_ok-new-in-Lam t c =
    let M = term_of c.deref.result.now in
    let B = open_term_of c.in_ok-body-in-Lam.body in
    let e : term_of c.args.term.now ≡ lambda M = grind (arith, rooting) in
    let r : open_term_of (Lam c.in_ok-new-in-Lam.field-0) ≡ lambda B = grind (arith, rooting) in
    heads_under_lambda c.args.binders c.in_ok-inside-in-Lam.inside c.args.count (term_of c.args.term.now) M B _ c.in_ok-inside-in-Lam.ensures e c.in_ok-body-in-Lam.ensures r
