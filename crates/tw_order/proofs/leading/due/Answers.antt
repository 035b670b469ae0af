use Rattle.std.proofs.Common.{arith}
use Rattle.tw_order.proofs.Deciding.{not_so}
use Rattle.tw_order.proofs.Reaching.{due_passed, none_due}
use Rattle.tw_order.proofs.leading.due.Goals as goal

pub loop-place-preserved : goal.loop-place-preserved
loop-place-preserved c = due_passed c.args.left.now c.args.reached.now c.loop-place.place _ (omega arith) c.loop-place.invariant (not_so c.has_number.result c.if-has_number.false c.has_number.ensures)

pub returns : goal.returns
returns c = none_due c.args.left.now c.args.reached.now c.loop-place.place (omega arith) c.loop-place.invariant
