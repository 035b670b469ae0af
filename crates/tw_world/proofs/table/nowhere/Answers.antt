use Rattle.tw_world.proofs.Tables.{none_next}
use Rattle.tw_world.proofs.table.nowhere.Goals as goal

pub loop-preserved : goal.loop-preserved
loop-preserved c = none_next c.loop.table.items c.push.new.self.items c.loop.counter c.loop.invariant c.in_ok-push.ensures.items
