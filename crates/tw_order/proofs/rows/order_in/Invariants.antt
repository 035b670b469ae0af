use Rattle.std.proofs.Common.{◌≡◌, drop}
use Rattle.tw_order.specs.Rows.{row_order}
use Rattle.tw_order.proofs.rows.order_in.Given as goal

abbrev pub invariant-loop-row : goal.invariant-loop-row
invariant-loop-row l = row_order (drop l.row-index l.group) l.family.0 ≡ row_order l.group l.family.0
