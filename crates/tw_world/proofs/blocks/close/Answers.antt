use Rattle.std.proofs.Common.{◌-◌, ◌∙◌, arith}
use Rattle.tw_world.proofs.Joining.{closed_next, closed_past}
use Rattle.tw_world.proofs.blocks.close.Goals as goal

pub loop-left-preserved : goal.loop-left-preserved
loop-left-preserved c = closed_next c.args.context.now c.loop-left.at _ c.loop-left.left (c.loop-left.left - 1) _ _ _ c.in-Some.ensures (omega arith) c.in_ok-at.ensures c.in_ok-closed.ensures ∙ c.loop-left.invariant

pub returns-in_default : goal.returns-in_default
returns-in_default c = closed_past c.args.context.now c.loop-left.at c.loop-left.left _ c.in_default.ensures ∙ c.loop-left.invariant
