use Rattle.std.proofs.Common.{◌≡◌, ◌++◌, map, take}
use Rattle.tw_terms.specs.View.{type_of}
use Rattle.tw_total.proofs.seen.note_block.Given as goal

abbrev pub invariant-loop-number : goal.invariant-loop-number
invariant-loop-number l = map type_of l.types.items ≡ map type_of l.fn.types.items ++ take l.number l.block.entries
