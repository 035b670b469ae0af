use Rattle.std.proofs.Common.{◌≡◌, ◌++◌, map, take}
use Rattle.tw_clause.specs.View.{worlds_of}
use Rattle.tw_terms.specs.View.{type_of}
use Rattle.tw_total.specs.Entries.{entries_of, entries_of_records}
use Rattle.tw_total.specs.View.{checked_of}
use Rattle.tw_total.proofs.seen.entries_seen.Given as goal

abbrev pub invariant-loop-record : goal.invariant-loop-record
invariant-loop-record l = map type_of l.types.items ≡ entries_of (worlds_of l.worlds) ++ entries_of_records (map checked_of (take l.record-index l.record-items))
