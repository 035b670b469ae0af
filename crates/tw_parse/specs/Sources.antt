-- The tokens that are left of a text.
use Rattle.std.specs.Prelude.{ℕ, List, drop}
use Rattle.tw_parse.specs.Words.{Lexeme, lexemes}
use Rattle.tw_parse.specs.declared.source.Source.{Source}

-- the tokens from the one with this number on
abbrev pub lexemes_from : Source → ℕ → List Lexeme
lexemes_from s number = drop number (lexemes s.text.now s.tokens.now)
