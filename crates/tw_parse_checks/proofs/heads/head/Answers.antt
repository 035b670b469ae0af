use Rattle.std.proofs.Common.{◌≡◌, ◌+◌, true, false, Some, rules}
use Rattle.tw_parse.specs.Sources.{lexemes_from}
use Rattle.tw_parse.specs.Words.{lexemes, first_word, first_bytes}
use Rattle.tw_parse.specs.declared.words.Word.TheVariants.{Name}
use Rattle.tw_parse_checks.specs.Marks.{mark_of}
use Rattle.tw_parse_checks.specs.Parts.{variable_at}
use Rattle.tw_parse_checks.proofs.Forms.{it_fails, it_holds}
use Rattle.tw_parse_checks.proofs.Leads.{no_opening_head, head_here}
use Rattle.tw_parse_checks.proofs.heads.head.Goals as goal

pub returns-then-not-opens-clause-head : goal.returns-then-not-opens-clause-head
returns-then-not-opens-clause-head c =
    let source = c.args.source.now in
    let fails : c.opens.result ≡ false = search rules in
    no_opening_head (lexemes source.text.now source.tokens.now) c.args.number (it_fails c.opens.result _ _ fails c.opens.ensures.opens)

pub returns-clause-head : goal.returns-clause-head
returns-clause-head c =
    let source = c.args.source.now in
    let n = c.args.number in
    let is : first_word (lexemes_from source n) ≡ Name = search rules in
    let marks : mark_of (first_bytes (lexemes_from source n)) ≡ Some c.in_ok-mark.mark = search rules in
    let holds : c.opens.result ≡ true = search rules in
    head_here (lexemes source.text.now source.tokens.now) n c.in_ok-mark.mark (variable_at source (n + 1)) is marks (it_holds c.opens.result _ _ holds c.opens.ensures.opens)
