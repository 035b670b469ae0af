use Rattle.std.proofs.Common.{◌≡◌, ◌+◌, List, true, false, rules}
use Rattle.tw_parse.specs.Sources.{lexemes_from}
use Rattle.tw_parse.specs.Words.{Lexeme, lexemes, first_word}
use Rattle.tw_parse.specs.declared.words.Word.TheVariants.{Dot, RParen}
use Rattle.tw_parse_checks.proofs.Tokens.{closes_bare, closes_paren, no_dot_close}
use Rattle.tw_parse_checks.proofs.heads.closes.Goals as goal

pub returns-then-not-parens : goal.returns-then-not-parens
returns-then-not-parens c =
    let source = c.args.source.now in
    let xs : List Lexeme = lexemes source.text.now source.tokens.now in
    let n = c.args.from in
    let flag : c.args.parens ≡ false = search rules in
    let is : first_word (lexemes_from source n) ≡ Dot = search rules in
    closes_bare xs n c.args.parens flag is (c.requires n is)

pub returns-then-ne-3 : goal.returns-then-ne-3
returns-then-ne-3 c =
    let source = c.args.source.now in
    let xs : List Lexeme = lexemes source.text.now source.tokens.now in
    let n = c.args.from in
    let flag : c.args.parens ≡ true = search rules in
    let is : first_word (lexemes_from source n) ≡ RParen = search rules in
    let isnt : first_word (lexemes_from source (n + 1)) ≡ Dot → ⊥ = search rules in
    no_dot_close xs n c.args.parens flag is isnt

pub returns : goal.returns
returns c =
    let source = c.args.source.now in
    let xs : List Lexeme = lexemes source.text.now source.tokens.now in
    let n = c.args.from in
    let flag : c.args.parens ≡ true = search rules in
    let is : first_word (lexemes_from source n) ≡ RParen = search rules in
    let dots : first_word (lexemes_from source (n + 1)) ≡ Dot = search rules in
    closes_paren xs n c.args.parens flag is dots (c.requires (n + 1) dots)
