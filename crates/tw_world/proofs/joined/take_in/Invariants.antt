use Rattle.std.proofs.Common.{List, drop, map}
use Rattle.lf.specs.Subordination.{Block}
use Rattle.tw_clause.specs.View.{block_of, worlds_of}
use Rattle.tw_world.specs.Joined.{TakesIn}
use Rattle.tw_world.proofs.joined.take_in.Given as goal

abbrev pub invariant-loop-block : goal.invariant-loop-block
invariant-loop-block l = (L : List Block) → TakesIn (worlds_of l.joined) (map block_of (drop l.block-index l.blocks)) L → TakesIn (worlds_of l.fn.joined) (map block_of l.blocks) L
