use Rattle.std.proofs.Common.{arith}
use Rattle.tw_terms.specs.View.{term_of}
use Rattle.tw_terms.proofs.Args.{types}
use Rattle.tw_terms.proofs.Weakened.{under_lambda}
use Rattle.tw_world.specs.Changes.{change_of}
use Rattle.tw_world.proofs.moving.+moving.Goals as goal

pub move_term-returns-in_ok-new-in-Lam : goal.move_term-returns-in_ok-new-in-Lam
move_term-returns-in_ok-new-in-Lam t c =
    let e = under_lambda c.in_ok-inside-in-Lam.inside c.args.under (change_of c.args.change) (term_of c.in-Lam.body.value) c.in_ok-inside-in-Lam.ensures in
    grind (arith, types, e)
