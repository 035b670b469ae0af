use Rattle.std.proofs.Common.{◌≡◌, ◌++◌, take}
use Rattle.tw_total.specs.Entries.{below_targets}
use Rattle.tw_total.proofs.frozen.note_block.Given as goal

abbrev pub invariant-loop-number : goal.invariant-loop-number
invariant-loop-number l = l.numbers.items ≡ l.fn.numbers.items ++ below_targets l.subord (take l.number l.block.entries)
