use Rattle.std.proofs.Common.{◌+◌, ◌*◌, length}
use Rattle.tw_parse.specs.Sources.{lexemes_from}
use Rattle.tw_parse_checks.specs.Parts.{orders_in}
use Rattle.tw_parse_checks.specs.Shapes.{TakeOrders}
use Rattle.tw_parse_checks.proofs.orders.+order.Given as goal

abbrev pub decreases-order : goal.decreases-order
decreases-order l = 2 * length (lexemes_from l.source.now l.from) + 1

abbrev pub decreases-components : goal.decreases-components
decreases-components l = 2 * length (lexemes_from l.source.now l.from) + 2

abbrev pub invariant-components-orders : goal.invariant-components-orders
invariant-components-orders l = TakeOrders (lexemes_from l.source l.from) (orders_in l.orders.items) (lexemes_from l.source l.upto)

abbrev pub decreases-components-orders : goal.decreases-components-orders
decreases-components-orders l = length (lexemes_from l.source l.upto)
