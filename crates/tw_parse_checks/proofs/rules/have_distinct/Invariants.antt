use Rattle.std.proofs.Common.{◌≡◌, drop, map}
use Rattle.tw_parse_checks.specs.Checks.{call_of}
use Rattle.tw_parse_checks.specs.Meanings.{have_distinct}
use Rattle.tw_parse_checks.proofs.rules.have_distinct.Given as goal

abbrev pub invariant-loop-pattern : goal.invariant-loop-pattern
invariant-loop-pattern l = have_distinct (map call_of (drop l.pattern-index l.patterns)) ≡ have_distinct (map call_of l.patterns)
