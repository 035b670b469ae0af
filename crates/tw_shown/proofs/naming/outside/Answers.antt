use Rattle.std.proofs.Common.{arith}
use Rattle.tw_shown.proofs.Lists.{all_taken_in, left_out, taken_in}
use Rattle.tw_shown.proofs.naming.outside.Goals as goal

pub loop-variable-preserved-then-variable-count : goal.loop-variable-preserved-then-variable-count
loop-variable-preserved-then-variable-count c = left_out c.args.count c.loop-variable.variable-index c.args.shown.now c.loop-variable.outer.items _ (omega arith) (omega arith) c.loop-variable.invariant

pub loop-variable-preserved : goal.loop-variable-preserved
loop-variable-preserved c = taken_in c.args.count c.loop-variable.variable-index c.args.shown.now c.loop-variable.outer.items c.push.new.self.items _ (omega arith) (omega arith) c.in_ok-push.ensures.items c.loop-variable.invariant

pub returns : goal.returns
returns c = all_taken_in c.args.count c.loop-variable.variable-index c.args.shown.now c.loop-variable.outer.items _ (omega arith) c.loop-variable.invariant
