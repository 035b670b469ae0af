use Rattle.std.proofs.Common.{arith, sym}
use Rattle.tw_abstract.proofs.Choosing.{next_chosen, none_there, not_chosen}
use Rattle.tw_abstract.proofs.order.chosen_needs.Goals as goal

pub loop-count-preserved : goal.loop-count-preserved
loop-count-preserved c = record {
  within = omega arith;
  chosen = next_chosen c.args.chosen.now c.args.needs.now c.loop-count.count _ c.variable.result c.loop-count.invariant.chosen c.variable.ensures (sym c.if-is_some.ensures);
}

pub returns-else-is_some-clause-last : goal.returns-else-is_some-clause-last
returns-else-is_some-clause-last c = not_chosen c.args.chosen.now c.args.needs.now c.loop-count.count _ c.variable.result c.variable.ensures (sym c.if-is_some.ensures)

pub returns-after-loop-count-clause-last : goal.returns-after-loop-count-clause-last
returns-after-loop-count-clause-last c = none_there c.args.chosen.now c.args.needs.now c.loop-count.count c.loop-count-test.false
