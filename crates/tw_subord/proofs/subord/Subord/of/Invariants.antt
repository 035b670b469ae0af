use Rattle.std.proofs.Common.{◌≡◌, ◌<◌, ◌↔◌, ℕ, Contains, length}
use Rattle.tw_subord.specs.Leads.{Leads}
use Rattle.tw_subord.specs.Rows.{row, rows_of, AreAscending}
use Rattle.tw_subord.proofs.subord.Subord.of.Given as goal

abbrev pub invariant-loop-family : goal.invariant-loop-family
invariant-loop-family l = (length l.rows.items ≡ l.family) × ((a b : ℕ) → b < l.family → (Contains (row (rows_of l.rows.items) b) a) ↔ Leads (rows_of l.links.items) a b) × AreAscending (rows_of l.rows.items)
