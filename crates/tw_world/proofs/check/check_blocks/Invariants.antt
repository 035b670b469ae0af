use Rattle.tw_world.proofs.Checked.{Rest, block_alone, blocks_listed, blocks_next}
use Rattle.tw_world.proofs.check.check_blocks.Given as goal

abbrev pub invariant-loop-block : goal.invariant-loop-block
invariant-loop-block l = Rest l.check (block_alone l.family.0) (blocks_listed l.family.0) (blocks_next l.family.0) l.blocks l.block-index
