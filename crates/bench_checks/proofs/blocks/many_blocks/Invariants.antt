use Rattle.std.proofs.Common.{map}
use Rattle.lf.specs.Entries.{signature_of}
use Rattle.lf.specs.Subordination.{AreTypedBlocks}
use Rattle.tw_clause.specs.View.{block_of}
use Rattle.bench_checks.proofs.blocks.many_blocks.Given as goal

abbrev pub invariant-loop-place : goal.invariant-loop-place
invariant-loop-place l = AreTypedBlocks (signature_of l.signature) (map block_of l.blocks.items)
