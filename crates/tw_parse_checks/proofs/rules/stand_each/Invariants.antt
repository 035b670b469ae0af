use Rattle.std.proofs.Common.{◌≡◌, length, map}
use Rattle.tw_parse_checks.specs.Checks.{call_of}
use Rattle.tw_parse_checks.specs.Meanings.{stand_each}
use Rattle.tw_parse_checks.proofs.rules.stand_each.Given as goal

abbrev pub invariant-loop-pattern : goal.invariant-loop-pattern
invariant-loop-pattern l = stand_each (map call_of l.patterns) (map call_of l.left) l.due ≡ stand_each (map call_of l.patterns) (map call_of l.patterns) l.fn.names

abbrev pub decreases-loop-pattern : goal.decreases-loop-pattern
decreases-loop-pattern l = length l.left
