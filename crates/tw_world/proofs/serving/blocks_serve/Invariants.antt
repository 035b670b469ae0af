use Rattle.std.proofs.Common.{◌↔◌, drop, map}
use Rattle.tw_clause.specs.View.{block_of, worlds_of}
use Rattle.tw_world.specs.Serving.{BlockServes, below_in}
use Rattle.tw_world.proofs.Served.{AllAre}
use Rattle.tw_world.proofs.serving.blocks_serve.Given as goal

abbrev pub invariant-loop-block : goal.invariant-loop-block
invariant-loop-block l = AllAre (λ B. BlockServes B (worlds_of l.known) (below_in l.subord l.family.0)) (map block_of (drop l.block-index l.block-items)) ↔ AllAre (λ B. BlockServes B (worlds_of l.known) (below_in l.subord l.family.0)) (map block_of l.block-items)
