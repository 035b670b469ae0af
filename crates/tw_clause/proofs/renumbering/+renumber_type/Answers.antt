use Rattle.std.proofs.Common.{arith}
use Rattle.tw_terms.specs.View.{type_of}
use Rattle.tw_terms.proofs.Args.{types}
use Rattle.tw_terms.proofs.Weakened.{under_pi}
use Rattle.tw_clause.specs.Numbers.{numbering}
use Rattle.tw_clause.proofs.renumbering.+renumber_type.Goals as goal

pub returns-in_ok-new-in-Pi-2 : goal.returns-in_ok-new-in-Pi-2
returns-in_ok-new-in-Pi-2 t c =
    let e = under_pi c.in_ok-inside-in-Pi.inside c.args.under (numbering c.args.numbers.now) (type_of c.in-Pi.domain.value) (type_of c.in-Pi.range.value) c.in_ok-inside-in-Pi.ensures in
    grind (arith, types, e)
