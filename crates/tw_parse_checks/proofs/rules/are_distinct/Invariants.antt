use Rattle.std.proofs.Common.{◌≡◌, length}
use Rattle.tw_parse_checks.specs.Meanings.{are_distinct}
use Rattle.tw_parse_checks.proofs.rules.are_distinct.Given as goal

abbrev pub invariant-loop-first : goal.invariant-loop-first
invariant-loop-first l = are_distinct l.left ≡ are_distinct l.fn.names

abbrev pub decreases-loop-first : goal.decreases-loop-first
decreases-loop-first l = length l.left
