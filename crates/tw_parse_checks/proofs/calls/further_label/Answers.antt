use Rattle.std.proofs.Common.{◌≡◌, ◌+◌, true, false, rules}
use Rattle.tw_parse.specs.Keywords.{is_identifier}
use Rattle.tw_parse.specs.Sources.{lexemes_from}
use Rattle.tw_parse.specs.Words.{lexemes, first_word}
use Rattle.tw_parse_checks.proofs.CallTokens.{further_here, no_label_behind}
use Rattle.tw_parse_checks.proofs.Forms.{it_holds}
use Rattle.tw_parse_checks.proofs.calls.further_label.Goals as goal

pub returns-then-not-is_identifier-clause-label : goal.returns-then-not-is_identifier-clause-label
returns-then-not-is_identifier-clause-label c =
    let source = c.args.source.now in
    let isnt : is_identifier (first_word (lexemes_from source (c.args.from + 1))) ≡ false = search rules in
    no_label_behind (lexemes source.text.now source.tokens.now) c.args.from isnt

pub returns-clause-label : goal.returns-clause-label
returns-clause-label c =
    let source = c.args.source.now in
    let says : c.says.result ≡ true = search rules in
    let is : is_identifier (first_word (lexemes_from source (c.args.from + 1))) ≡ true = search rules in
    further_here source.end (lexemes source.text.now source.tokens.now) c.args.from c.in_ok-label.label (it_holds c.says.result _ _ says c.says.ensures.says) is c.in_ok-label.ensures.0 c.in_ok-label.ensures.1
