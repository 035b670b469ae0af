use Rattle.std.proofs.Common.{◌≡◌, [], reverse}
use Rattle.tw_parse.specs.Sources.{lexemes_from}
use Rattle.tw_parse.specs.Nesting.{first_too_deep}
use Rattle.tw_parse.proofs.nesting.too_deep.Given as goal

abbrev pub invariant-loop-number : goal.invariant-loop-number
invariant-loop-number l = first_too_deep (reverse l.brackets.items) l.level (lexemes_from l.source l.number) ≡ first_too_deep [] 0 (lexemes_from l.source 0)
