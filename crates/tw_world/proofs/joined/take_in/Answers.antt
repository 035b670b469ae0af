use Rattle.std.proofs.Common.{arith}
use Rattle.tw_clause.specs.View.{block_of, worlds_of}
use Rattle.tw_world.proofs.TakenIn.{takes_next}
use Rattle.tw_world.proofs.joined.take_in.Goals as goal

pub loop-block-preserved : goal.loop-block-preserved
loop-block-preserved c = takes_next block_of c.args.blocks.now c.loop-block.block-index c.block-item.result (worlds_of c.args.joined.now) (worlds_of c.loop-block.joined) (worlds_of c.take_one.new.joined) (omega arith) c.block-item.is c.in_ok-take_one.ensures c.loop-block.invariant
