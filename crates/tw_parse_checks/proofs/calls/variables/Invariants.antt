use Rattle.std.proofs.Common.{◌-◌, length}
use Rattle.tw_parse.specs.Sources.{lexemes_from}
use Rattle.tw_parse_checks.specs.Shapes.{Row, TakesVariable}
use Rattle.tw_parse_checks.proofs.calls.variables.Given as goal

abbrev pub invariant-names : goal.invariant-names
invariant-names l = Row TakesVariable (lexemes_from l.source l.from) l.names.items (lexemes_from l.source l.upto)

abbrev pub decreases-names : goal.decreases-names
decreases-names l = length l.source.tokens.now - l.upto
