use Rattle.std.proofs.Common.{◌≡◌, ◌++◌, length, take}
use Rattle.lf.specs.Entries.{signature_of}
use Rattle.tw_subord.specs.Pairs.{pairs_of, numbered_pairs, blocks_pairs}
use Rattle.tw_subord.proofs.pairs.all_pairs.Given as goal

abbrev pub invariant-loop-number : goal.invariant-loop-number
invariant-loop-number l = pairs_of l.pairs.items ≡ numbered_pairs (signature_of l.signature) l.number

abbrev pub invariant-loop-block : goal.invariant-loop-block
invariant-loop-block l = pairs_of l.pairs.items ≡ numbered_pairs (signature_of l.signature) (length l.signature) ++ blocks_pairs (take l.block-index l.blocks)
