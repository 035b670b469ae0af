use Rattle.std.proofs.Common.{◌≡◌, ◌++◌, map, take}
use Rattle.tw_clause.specs.View.{block_of}
use Rattle.tw_terms.specs.View.{type_of}
use Rattle.tw_total.specs.Entries.{entries_of}
use Rattle.tw_total.proofs.seen.note_worlds.Given as goal

abbrev pub invariant-loop-block : goal.invariant-loop-block
invariant-loop-block l = map type_of l.types.items ≡ map type_of l.fn.types.items ++ entries_of (map block_of (take l.block-index l.block-items))
