use Rattle.std.proofs.Common.{◌≡◌, ◌↔◌, ℕ, Contains, length}
use Rattle.tw_subord.specs.Rows.{row, rows_of}
use Rattle.tw_subord.proofs.links.put_in_order.Given as goal

abbrev pub invariant-loop-number : goal.invariant-loop-number
invariant-loop-number l = ((a b : ℕ) → (Contains (row (rows_of l.links.items) b) a) ↔ Contains (row (rows_of l.fn.links.items) b) a) × (length l.links.items ≡ length l.fn.links.items)
