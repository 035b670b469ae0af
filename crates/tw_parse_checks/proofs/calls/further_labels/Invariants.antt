use Rattle.std.proofs.Common.{◌-◌, length}
use Rattle.tw_parse.specs.Sources.{lexemes_from}
use Rattle.tw_parse_checks.specs.Parts.{AreLabels}
use Rattle.tw_parse_checks.proofs.calls.further_labels.Given as goal

abbrev pub invariant-labels : goal.invariant-labels
invariant-labels l = AreLabels (lexemes_from l.source l.from) l.fn.first l.labels.items (lexemes_from l.source l.upto)

abbrev pub decreases-labels : goal.decreases-labels
decreases-labels l = length l.source.tokens.now - l.upto
