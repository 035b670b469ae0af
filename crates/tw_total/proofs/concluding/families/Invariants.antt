use Rattle.std.proofs.Common.{◌≡◌, map, take}
use Rattle.tw_total.specs.View.{families_of, numbers_of, order_row_of}
use Rattle.tw_total.proofs.concluding.families.Given as goal

abbrev pub invariant-loop-family : goal.invariant-loop-family
invariant-loop-family l = numbers_of l.families.items ≡ families_of (map order_row_of (take l.family-index l.group))
