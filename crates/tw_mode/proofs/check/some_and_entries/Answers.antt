use Rattle.std.proofs.Common.{[]}
use Rattle.tw_mode.specs.Solved.{with_hidden}
use Rattle.tw_mode.proofs.Entries.{hidden_next, shown_next}
use Rattle.tw_mode.proofs.check.some_and_entries.Goals as goal

pub loop-preserved : goal.loop-preserved
loop-preserved c = hidden_next [] c.loop.marks.items c.push.new.self.items c.loop.counter c.loop.invariant c.in_ok-push.ensures.items

pub loop-2-preserved : goal.loop-2-preserved
loop-2-preserved c = shown_next (with_hidden [] c.args.some) c.loop-2.marks.items c.push-in-loop-2.new.self.items c.loop-2.counter c.loop-2.invariant c.in_ok-push-2.ensures.items
