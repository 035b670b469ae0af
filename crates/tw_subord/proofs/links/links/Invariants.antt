use Rattle.std.proofs.Common.{◌≤◌, ◌↔◌, ℕ, Contains, length, take}
use Rattle.tw_subord.specs.Pairs.{pairs_of}
use Rattle.tw_subord.specs.Rows.{row, rows_of}
use Rattle.tw_subord.proofs.links.links.Given as goal

abbrev pub invariant-loop-pair : goal.invariant-loop-pair
invariant-loop-pair l = (l.count ≤ length l.links.items) × ((a b : ℕ) → (Contains (row (rows_of l.links.items) b) a) ↔ Contains (pairs_of (take l.pair-index l.pairs)) (a, b))
