use Rattle.std.proofs.Common.{arith}
use Rattle.tw_terms.specs.View.{type_of}
use Rattle.tw_terms.proofs.Args.{types}
use Rattle.tw_terms.proofs.Weakened.{under_pi}
use Rattle.tw_reorder.specs.Moving.{moved}
use Rattle.tw_reorder.proofs.moving.+moved_type.Goals as goal

pub returns-in_ok-new-in-Pi-2 : goal.returns-in_ok-new-in-Pi-2
returns-in_ok-new-in-Pi-2 t c =
    let e = under_pi c.in_ok-inside-in-Pi.inside c.args.under (moved c.args.moves.now.order.now c.args.moves.now.shift c.args.moves.now.less) (type_of c.in-Pi.domain.value) (type_of c.in-Pi.range.value) c.in_ok-inside-in-Pi.ensures in
    grind (arith, types, e)
