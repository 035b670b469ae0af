use Rattle.std.proofs.Common.{◌≡◌, List, rules}
use Rattle.tw_parse.specs.Sources.{lexemes_from}
use Rattle.tw_parse.specs.Words.{Lexeme, lexemes, first_word}
use Rattle.tw_parse.specs.declared.words.Word.TheVariants.{Name, Underscore}
use Rattle.tw_parse.proofs.Drafts.{a_name_head, a_check_head}
use Rattle.tw_parse.specs.declared.words.Word.TheVariants.{Keyword}
use Rattle.tw_parse.proofs.Stopping.{stops_at_start}
use Rattle.tw_parse.proofs.parse.declaration.Goals as goal

pub behind_name-requires-clause-head : goal.behind_name-requires-clause-head
behind_name-requires-clause-head c =
    let source = c.args.source.now in
    let xs : List Lexeme = lexemes source.text.now source.tokens.now in
    let names : first_word (lexemes_from source 0) ≡ Name = search rules in
    let same = c.in_ok-name-in-Name.ensures in
    a_name_head xs c.in_ok-name-in-Name.name names same

pub behind_name-requires-in-Underscore-clause-head : goal.behind_name-requires-in-Underscore-clause-head
behind_name-requires-in-Underscore-clause-head c =
    let source = c.args.source.now in
    let xs : List Lexeme = lexemes source.text.now source.tokens.now in
    let is : first_word (lexemes_from source 0) ≡ Underscore = search rules in
    a_check_head xs is

pub returns-in_default-clause-fault : goal.returns-in_default-clause-fault
returns-in_default-clause-fault c =
    let source = c.args.source.now in
    let no_name : first_word (lexemes_from source 0) ≡ Name → ⊥ = search rules in
    let no_hole : first_word (lexemes_from source 0) ≡ Underscore → ⊥ = search rules in
    let no_keyword : first_word (lexemes_from source 0) ≡ Keyword → ⊥ = search rules in
    stops_at_start source.fixities.now source.end c.place.result (lexemes_from source 0) no_name no_hole no_keyword c.place.ensures
