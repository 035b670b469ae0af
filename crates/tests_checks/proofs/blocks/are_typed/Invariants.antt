use Rattle.std.proofs.Common.{map, take}
use Rattle.lf.specs.Entries.{signature_of}
use Rattle.lf.specs.Subordination.{Block as PlainBlock, IsTypedBlock, Member}
use Rattle.tw_clause.specs.View.{block_of}
use Rattle.tests_checks.proofs.blocks.are_typed.Given as goal

abbrev pub invariant-loop-block : goal.invariant-loop-block
invariant-loop-block l = (B : PlainBlock) → Member B (map block_of (take l.block-index l.worlds.blocks.items)) → IsTypedBlock (signature_of l.signature) B
