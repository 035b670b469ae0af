use Rattle.std.proofs.Common.{◌↔◌, drop, map}
use Rattle.lf.specs.Subordination.{Member}
use Rattle.tw_clause.specs.View.{block_of}
use Rattle.tw_world.proofs.serving.is_one_of.Given as goal

abbrev pub invariant-loop-other : goal.invariant-loop-other
invariant-loop-other l = Member (block_of l.block) (map block_of (drop l.other-index l.other-items)) ↔ Member (block_of l.block) (map block_of l.other-items)
