use Rattle.std.proofs.Common.{◌≡◌, List, Some, subst, sym, rules}
use Rattle.tw_parse.specs.Sources.{lexemes_from}
use Rattle.tw_parse.specs.Words.{Lexeme, lexemes, first_word, first_bytes}
use Rattle.tw_parse_checks.specs.Marks.{named_mark_by}
use Rattle.tw_parse_checks.specs.Shapes.{Row, no_more, TakesMark}
use Rattle.tw_parse_checks.specs.declared.check.ExtMark.{ExtMark}
use Rattle.tw_parse_checks.proofs.Tokens.{one_more_mark}
use Rattle.tw_parse_checks.proofs.heads.marks.Goals as goal

pub marks-init : goal.marks-init
marks-init c =
    let P : List ExtMark → Type 0 = λ ms. Row TakesMark (lexemes_from c.args.source.now c.args.from) ms (lexemes_from c.args.source.now c.args.from) in
    subst P (sym c.new-marks.ensures.items) no_more

pub marks-preserved : goal.marks-preserved
marks-preserved c =
    let source = c.args.source.now in
    let xs : List Lexeme = lexemes source.text.now source.tokens.now in
    let is : named_mark_by (first_word (lexemes_from source c.marks.upto)) (first_bytes (lexemes_from source c.marks.upto)) ≡ Some c.in-Some.mark = search rules in
    one_more_mark xs c.args.from c.marks.upto c.marks.marks.items c.push.new.self.items c.in-Some.mark c.marks.invariant is c.in_ok-push.ensures.items
