use Rattle.std.proofs.Common.{◌≡◌, map, take}
use Rattle.tw_clause.specs.View.{block_of}
use Rattle.tw_clause.proofs.block.Worlds.copy.Given as goal

abbrev pub invariant-loop-block : goal.invariant-loop-block
invariant-loop-block l = map block_of l.blocks.items ≡ map block_of (take l.block-index l.block-items)
