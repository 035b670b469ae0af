use Rattle.std.proofs.Common.{arith}
use Rattle.lf.specs.AtOnce.{shift_by}
use Rattle.tw_terms.specs.View.{term_of}
use Rattle.tw_terms.proofs.Args.{types}
use Rattle.tw_terms.proofs.Weakened.{under_lambda}
use Rattle.tw_terms.proofs.weakening.+weaken.Goals as goal

pub weaken_term-returns-in_ok-new-in-Lam : goal.weaken_term-returns-in_ok-new-in-Lam
weaken_term-returns-in_ok-new-in-Lam t c =
    let e = under_lambda c.in_ok-inside-in-Lam.inside c.args.under (shift_by c.args.by) (term_of c.in-Lam.body.value) c.in_ok-inside-in-Lam.ensures in
    grind (arith, types, e)
