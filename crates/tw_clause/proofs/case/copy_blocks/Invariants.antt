use Rattle.std.proofs.Common.{◌≡◌, map, take}
use Rattle.tw_clause.specs.Cases.{block_variable_of}
use Rattle.tw_clause.proofs.case.copy_blocks.Given as goal

abbrev pub invariant-loop-block : goal.invariant-loop-block
invariant-loop-block l = map block_variable_of l.copies.items ≡ map block_variable_of (take l.block-index l.blocks)
