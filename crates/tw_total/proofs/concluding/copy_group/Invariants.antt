use Rattle.std.proofs.Common.{◌≡◌, map, take}
use Rattle.tw_total.specs.View.{order_row_of}
use Rattle.tw_total.proofs.concluding.copy_group.Given as goal

abbrev pub invariant-loop-family : goal.invariant-loop-family
invariant-loop-family l = map order_row_of l.copies.items ≡ map order_row_of (take l.family-index l.group)
