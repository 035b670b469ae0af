use Rattle.std.proofs.Common.{arith}
use Rattle.tw_mode.proofs.Walking.{all_pushed, not_pushed}
use Rattle.tw_mode.proofs.clause.not_variables.Goals as goal

pub loop-preserved : goal.loop-preserved
loop-preserved c = all_pushed c.loop.counter c.loop.marks.items c.push.new.self.items c.loop.invariant c.in_ok-push.ensures.items

pub loop-is_variable-preserved : goal.loop-is_variable-preserved
loop-is_variable-preserved c = not_pushed c.args.outside c.loop-is_variable.is_variable-index c.args.shape.now c.loop-is_variable.marks.items c.push-in-loop-is_variable.new.self.items (omega arith) c.loop-is_variable.invariant c.in_ok-push-2.ensures.items
