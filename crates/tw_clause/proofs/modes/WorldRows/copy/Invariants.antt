use Rattle.std.proofs.Common.{◌≡◌, map, take}
use Rattle.tw_clause.specs.Tables.{world_row_of}
use Rattle.tw_clause.proofs.modes.WorldRows.copy.Given as goal

abbrev pub invariant-loop-family : goal.invariant-loop-family
invariant-loop-family l = map world_row_of l.rows.items ≡ map world_row_of (take l.family-index l.family-items)
