use Rattle.std.proofs.Common.{◌≡◌, List, rules}
use Rattle.tw_parse.specs.Sources.{lexemes_from}
use Rattle.tw_parse.specs.Words.{Lexeme, lexemes, first_word}
use Rattle.tw_parse.specs.declared.words.Word.TheVariants.{Name}
use Rattle.tw_parse.proofs.Drafts.{an_abbreviation_head}
use Rattle.tw_parse.proofs.Stopping.{stops_at_name}
use Rattle.tw_parse.proofs.parse.abbreviation.Goals as goal

pub behind_name-requires-clause-head : goal.behind_name-requires-clause-head
behind_name-requires-clause-head c =
    let source = c.args.source.now in
    let xs : List Lexeme = lexemes source.text.now source.tokens.now in
    let names : first_word (lexemes_from source 1) ≡ Name = search rules in
    an_abbreviation_head xs c.in_ok-name.name c.requires.form.0 c.requires.form.1 names c.in_ok-name.ensures

pub returns-then-ne-clause-fault : goal.returns-then-ne-clause-fault
returns-then-ne-clause-fault c =
    let source = c.args.source.now in
    let isnt : first_word (lexemes_from source 1) ≡ Name → ⊥ = search rules in
    stops_at_name source.fixities.now source.end c.place.result (lexemes_from source 0) c.requires.form.0 c.requires.form.1 isnt c.place.ensures
