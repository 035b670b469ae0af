use Rattle.std.proofs.Common.{◌≡◌, length, map}
use Rattle.tw_parse_checks.specs.Checks.{call_of}
use Rattle.tw_parse_checks.specs.Meanings.{one_has}
use Rattle.tw_parse_checks.proofs.rules.one_has.Given as goal

abbrev pub invariant-loop-first : goal.invariant-loop-first
invariant-loop-first l = one_has l.name (map call_of l.left) ≡ one_has l.name (map call_of l.fn.patterns)

abbrev pub decreases-loop-first : goal.decreases-loop-first
decreases-loop-first l = length l.left
