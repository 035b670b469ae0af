use Rattle.std.proofs.Common.{◌-◌, length}
use Rattle.tw_parse_checks.specs.Parts.{AreBinders}
use Rattle.tw_parse_checks.proofs.binders.binders.Given as goal

abbrev pub invariant-binders : goal.invariant-binders
invariant-binders l = AreBinders l.source l.from l.bound l.upto

abbrev pub decreases-binders : goal.decreases-binders
decreases-binders l = length l.source.tokens.now - l.upto
