use Rattle.std.proofs.Common.{◌≡◌, drop, map}
use Rattle.tw_parse_checks.specs.Checks.{call_of}
use Rattle.tw_parse_checks.specs.Meanings.{family_in, stands_in}
use Rattle.tw_parse_checks.proofs.rules.names_family.Given as goal

abbrev pub invariant-loop-pattern : goal.invariant-loop-pattern
invariant-loop-pattern l = stands_in l.name (map family_in (map call_of (drop l.pattern-index l.patterns))) ≡ stands_in l.name (map family_in (map call_of l.patterns))
