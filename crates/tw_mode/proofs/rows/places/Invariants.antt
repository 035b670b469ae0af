use Rattle.std.proofs.Common.{◌≡◌, map, take}
use Rattle.tw_clause.specs.View.{mark_of}
use Rattle.tw_mode.specs.Rows.{places_with}
use Rattle.tw_mode.proofs.rows.places.Given as goal

abbrev pub invariant-loop-mark : goal.invariant-loop-mark
invariant-loop-mark l = l.chosen.items ≡ places_with l.wanted (map mark_of (take l.mark-index l.marks))
