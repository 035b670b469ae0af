use Rattle.std.proofs.Common.{◌≡◌, drop}
use Rattle.tw_parse_checks.specs.Meanings.{stands_in}
use Rattle.tw_parse_checks.proofs.rules.is_among.Given as goal

abbrev pub invariant-loop-other : goal.invariant-loop-other
invariant-loop-other l = stands_in l.name (drop l.other-index l.names) ≡ stands_in l.name l.names
