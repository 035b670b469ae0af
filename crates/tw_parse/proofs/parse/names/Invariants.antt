use Rattle.std.proofs.Common.{◌-◌, length}
use Rattle.tw_parse.specs.Faults.{NamesBetween}
use Rattle.tw_parse.proofs.parse.names.Given as goal

abbrev pub invariant-names : goal.invariant-names
invariant-names l = NamesBetween l.source l.from l.upto l.names.items

abbrev pub decreases-names : goal.decreases-names
decreases-names l = length l.source.tokens.now - l.upto
