use Rattle.std.proofs.Common.{◌-◌, length}
use Rattle.tw_parse_checks.specs.Parts.{AreQuantified}
use Rattle.tw_parse_checks.proofs.quantifiers.quantifiers.Given as goal

abbrev pub invariant-variables : goal.invariant-variables
invariant-variables l = AreQuantified l.source l.from l.quantified l.upto

abbrev pub decreases-variables : goal.decreases-variables
decreases-variables l = length l.source.tokens.now - l.upto
