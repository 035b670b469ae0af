use Rattle.std.proofs.Common.{◌≡◌, drop, map}
use Rattle.tw_parse_checks.specs.Checks.{call_of}
use Rattle.tw_parse_checks.specs.Meanings.{none_has}
use Rattle.tw_parse_checks.proofs.rules.none_has.Given as goal

abbrev pub invariant-loop-pattern : goal.invariant-loop-pattern
invariant-loop-pattern l = none_has l.name (map call_of (drop l.pattern-index l.patterns)) ≡ none_has l.name (map call_of l.patterns)
