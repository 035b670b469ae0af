use Rattle.std.proofs.Common.{◌≡◌, ◌++◌, map, take}
use Rattle.tw_clause.specs.View.{block_of}
use Rattle.tw_total.specs.Entries.{below_targets, entries_of}
use Rattle.tw_total.proofs.frozen.note_worlds.Given as goal

abbrev pub invariant-loop-block : goal.invariant-loop-block
invariant-loop-block l = l.numbers.items ≡ l.fn.numbers.items ++ below_targets l.subord (entries_of (map block_of (take l.block-index l.block-items)))
