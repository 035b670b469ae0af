use Rattle.std.proofs.Common.{◌≡◌, drop}
use Rattle.lf_checks.specs.Tests.{is_in}
use Rattle.tw_clause.proofs.pattern.has_number.Given as goal

abbrev pub invariant-loop-other : goal.invariant-loop-other
invariant-loop-other l = is_in l.number (drop l.other-index l.numbers) ≡ is_in l.number l.numbers
