use Rattle.std.proofs.Common.{arith}
use Rattle.tw_terms.specs.View.{term_of}
use Rattle.tw_terms.proofs.Args.{types}
use Rattle.tw_terms.proofs.Weakened.{under_lambda}
use Rattle.tw_clause.specs.Numbers.{numbering}
use Rattle.tw_clause.proofs.renumbering.+renumber.Goals as goal

pub renumber_term-returns-in_ok-new-in-Lam : goal.renumber_term-returns-in_ok-new-in-Lam
renumber_term-returns-in_ok-new-in-Lam t c =
    let e = under_lambda c.in_ok-inside-in-Lam.inside c.args.under (numbering c.args.numbers.now) (term_of c.in-Lam.body.value) c.in_ok-inside-in-Lam.ensures in
    grind (arith, types, e)
