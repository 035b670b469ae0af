use Rattle.std.proofs.Common.{◌≡◌, length, map}
use Rattle.tw_parse_checks.specs.Checks.{call_of}
use Rattle.tw_parse_checks.specs.Meanings.{are_distinct, family_in}
use Rattle.tw_parse_checks.proofs.rules.families_differ.Given as goal

abbrev pub invariant-loop-first : goal.invariant-loop-first
invariant-loop-first l = are_distinct (map family_in (map call_of l.left)) ≡ are_distinct (map family_in (map call_of l.fn.patterns))

abbrev pub decreases-loop-first : goal.decreases-loop-first
decreases-loop-first l = length l.left
