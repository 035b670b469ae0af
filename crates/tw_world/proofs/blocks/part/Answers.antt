use Rattle.std.proofs.Common.{◌-◌, arith}
use Rattle.tw_world.proofs.Joining.{part_next, part_past}
use Rattle.tw_world.proofs.blocks.part.Goals as goal

pub returns-in_ok-close-in-Some : goal.returns-in_ok-close-in-Some
returns-in_ok-close-in-Some c = part_next c.args.context.now c.args.newest _ c.args.count (c.args.count - 1) _ _ _ c.in-Some.ensures (omega arith) c.in_ok-one_more-in-Some.ensures c.in_ok-body-in-Some.ensures c.in_ok-close-in-Some.ensures

pub returns-in-None : goal.returns-in-None
returns-in-None c = part_past c.args.context.now c.args.newest c.args.count c.in-None.ensures
