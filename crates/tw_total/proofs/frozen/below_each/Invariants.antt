use Rattle.std.proofs.Common.{◌≡◌, map, take}
use Rattle.tw_total.specs.Entries.{rows_below}
use Rattle.tw_total.specs.View.{below_row_of, families_of, order_row_of}
use Rattle.tw_total.proofs.frozen.below_each.Given as goal

abbrev pub invariant-loop-family : goal.invariant-loop-family
invariant-loop-family l = map below_row_of l.rows.items ≡ rows_below l.subord (families_of (map order_row_of (take l.family-index l.group)))
