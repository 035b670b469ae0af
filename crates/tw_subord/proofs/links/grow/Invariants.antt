use Rattle.std.proofs.Common.{◌≡◌, ◌≤◌, ◌-◌, ℕ, length}
use Rattle.tw_subord.specs.Rows.{row, rows_of}
use Rattle.tw_subord.proofs.links.grow.Given as goal

abbrev pub invariant-loop-links : goal.invariant-loop-links
invariant-loop-links l = ((b : ℕ) → row (rows_of l.links.items) b ≡ row (rows_of l.fn.links.items) b) × (length l.fn.links.items ≤ length l.links.items)

abbrev pub decreases-loop-links : goal.decreases-loop-links
decreases-loop-links l = l.count - length l.links.items
