use Rattle.tw_metas.specs.View.{equation_of}
use Rattle.tw_terms.specs.OpenView.{open_term_of}
use Rattle.tw_unify.specs.Sides.{with_sides}
use Rattle.tw_unify.proofs.Working.{put_sides_unbound, sides_fit}
use Rattle.tw_unify.proofs.postponed.is_left.Goals as goal

pub find_next-requires : goal.find_next-requires
find_next-requires c =
    let s = c.args.store.now.now in
    let e = equation_of c.args.equation.now in
    let M = open_term_of c.in_ok-left.left in
    let N = open_term_of c.in_ok-left.right in
    sides_fit c.requires.signature s (with_sides e M N) c.in-Flexible.ensures.head c.in-Flexible.ensures.left c.in-Flexible.ensures.left_is (c.requires.shown M N c.in_ok-left.ensures) (put_sides_unbound c.requires.signature s e M N c.in_ok-left.ensures)
