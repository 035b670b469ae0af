use Rattle.std.proofs.Common.{◌≡◌, ◌++◌, map, take}
use Rattle.std.specs.List.{flat_map}
use Rattle.tw_subord.specs.Rows.{row}
use Rattle.tw_total.specs.View.{families_of, order_row_of}
use Rattle.tw_total.proofs.frozen.note_group.Given as goal

abbrev pub invariant-loop-family : goal.invariant-loop-family
invariant-loop-family l = l.numbers.items ≡ l.fn.numbers.items ++ flat_map (row l.subord) (families_of (map order_row_of (take l.family-index l.group)))
