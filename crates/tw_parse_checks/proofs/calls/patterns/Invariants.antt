use Rattle.std.proofs.Common.{length, map}
use Rattle.tw_parse.specs.Sources.{lexemes_from}
use Rattle.tw_parse_checks.specs.Checks.{call_of}
use Rattle.tw_parse_checks.specs.Shapes.{Row, TakesCall}
use Rattle.tw_parse_checks.proofs.calls.patterns.Given as goal

abbrev pub invariant-patterns : goal.invariant-patterns
invariant-patterns l = Row TakesCall (lexemes_from l.source l.from) (map call_of l.patterns.items) (lexemes_from l.source l.upto)

abbrev pub decreases-patterns : goal.decreases-patterns
decreases-patterns l = length (lexemes_from l.source l.upto)
