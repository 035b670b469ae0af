use Rattle.std.proofs.Common.{◌-◌, length}
use Rattle.tw_parse.specs.Sources.{lexemes_from}
use Rattle.tw_parse_checks.specs.Shapes.{Row, TakesMark}
use Rattle.tw_parse_checks.proofs.heads.marks.Given as goal

abbrev pub invariant-marks : goal.invariant-marks
invariant-marks l = Row TakesMark (lexemes_from l.source l.from) l.marks.items (lexemes_from l.source l.upto)

abbrev pub decreases-marks : goal.decreases-marks
decreases-marks l = length l.source.tokens.now - l.upto
