use Rattle.std.proofs.Common.{◌≡◌, ◌+◌, List, true, false, rules}
use Rattle.tw_parse.specs.Keywords.{is_identifier}
use Rattle.tw_parse.specs.Sources.{lexemes_from}
use Rattle.tw_parse.specs.Words.{Lexeme, lexemes, first_word}
use Rattle.tw_parse.specs.declared.words.Word.TheVariants.{LParen}
use Rattle.tw_parse_checks.proofs.Tokens.{bare_family, inside_family, no_inside_family}
use Rattle.tw_parse_checks.proofs.heads.family.Goals as goal

pub returns-then-not-parens : goal.returns-then-not-parens
returns-then-not-parens c =
    let source = c.args.source.now in
    let xs : List Lexeme = lexemes source.text.now source.tokens.now in
    let flag : c.args.parens ≡ false = search rules in
    let is : is_identifier (first_word (lexemes_from source c.args.from)) ≡ true = search rules in
    bare_family source.end xs c.args.from c.args.parens c.in_ok-bare.bare flag is c.in_ok-bare.ensures.0 c.in_ok-bare.ensures.1

pub returns-then-not-is_identifier-2 : goal.returns-then-not-is_identifier-2
returns-then-not-is_identifier-2 c =
    let source = c.args.source.now in
    let xs : List Lexeme = lexemes source.text.now source.tokens.now in
    let flag : c.args.parens ≡ true = search rules in
    let opens : first_word (lexemes_from source c.args.from) ≡ LParen = search rules in
    let isnt : is_identifier (first_word (lexemes_from source (c.args.from + 1))) ≡ false = search rules in
    no_inside_family xs c.args.from c.args.parens flag opens isnt

pub returns : goal.returns
returns c =
    let source = c.args.source.now in
    let xs : List Lexeme = lexemes source.text.now source.tokens.now in
    let flag : c.args.parens ≡ true = search rules in
    let opens : first_word (lexemes_from source c.args.from) ≡ LParen = search rules in
    let is : is_identifier (first_word (lexemes_from source (c.args.from + 1))) ≡ true = search rules in
    inside_family source.end xs c.args.from c.args.parens c.in_ok-inside.inside flag opens is c.in_ok-inside.ensures.0 c.in_ok-inside.ensures.1
