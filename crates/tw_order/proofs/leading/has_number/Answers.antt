use Rattle.std.proofs.Common.{arith}
use Rattle.tw_order.proofs.Deciding.{decided_yes}
use Rattle.tw_order.proofs.Reaching.{number_found, number_passed}
use Rattle.tw_order.proofs.leading.has_number.Goals as goal

pub returns-then-other-number : goal.returns-then-other-number
returns-then-other-number c = decided_yes (number_found c.args.numbers.now c.loop-other.other-index c.args.number _ (omega arith) c.if-other-number.true)

pub loop-other-preserved : goal.loop-other-preserved
loop-other-preserved c = number_passed c.args.numbers.now c.loop-other.other-index c.args.number _ (omega arith) c.loop-other.invariant c.if-other-number.false
