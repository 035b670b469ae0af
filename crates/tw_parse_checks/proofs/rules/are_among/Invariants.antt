use Rattle.std.proofs.Common.{◌≡◌, drop}
use Rattle.tw_parse_checks.specs.Meanings.{are_among}
use Rattle.tw_parse_checks.proofs.rules.are_among.Given as goal

abbrev pub invariant-loop-x : goal.invariant-loop-x
invariant-loop-x l = are_among l.variables (drop l.x-index l.names) ≡ are_among l.variables l.names
