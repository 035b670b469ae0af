use Rattle.std.proofs.Common.{◌≡◌, map, take}
use Rattle.tw_clause.specs.Tables.{mode_row_of}
use Rattle.tw_clause.proofs.modes.Modes.copy.Given as goal

abbrev pub invariant-loop-family : goal.invariant-loop-family
invariant-loop-family l = map mode_row_of l.rows.items ≡ map mode_row_of (take l.family-index l.family-items)
