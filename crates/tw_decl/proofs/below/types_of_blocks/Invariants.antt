use Rattle.std.proofs.Common.{◌≡◌, map, take}
use Rattle.tw_clause.specs.View.{block_of}
use Rattle.tw_subord.specs.View.{worlds_of_types}
use Rattle.tw_decl.specs.Steps.{entries_alone}
use Rattle.tw_decl.proofs.below.types_of_blocks.Given as goal

abbrev pub invariant-loop-block : goal.invariant-loop-block
invariant-loop-block l = worlds_of_types l.types.items ≡ entries_alone (map block_of (take l.block-index l.blocks))
