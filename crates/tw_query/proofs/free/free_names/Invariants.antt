use Rattle.std.proofs.Common.{◌≡◌, None, drop, length, map, replicate}
use Rattle.tw_query.specs.Rows.{row_of}
use Rattle.tw_query.specs.Text.{given_names}
use Rattle.tw_query.proofs.free.free_names.Given as goal

abbrev pub invariant-loop-row : goal.invariant-loop-row
invariant-loop-row l = given_names (map row_of (drop l.row-index l.rows)) l.names.items ≡ given_names (map row_of l.rows) (replicate (length l.free) None)
