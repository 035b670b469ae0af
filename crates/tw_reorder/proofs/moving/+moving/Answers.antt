use Rattle.std.proofs.Common.{arith}
use Rattle.tw_terms.specs.View.{term_of}
use Rattle.tw_terms.proofs.Args.{types}
use Rattle.tw_terms.proofs.Weakened.{under_lambda}
use Rattle.tw_reorder.specs.Moving.{moved}
use Rattle.tw_reorder.proofs.moving.+moving.Goals as goal

pub moved_term-returns-in_ok-new-in-Lam : goal.moved_term-returns-in_ok-new-in-Lam
moved_term-returns-in_ok-new-in-Lam t c =
    let e = under_lambda c.in_ok-inside-in-Lam.inside c.args.under (moved c.args.moves.now.order.now c.args.moves.now.shift c.args.moves.now.less) (term_of c.in-Lam.body.value) c.in_ok-inside-in-Lam.ensures in
    grind (arith, types, e)
