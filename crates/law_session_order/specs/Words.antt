-- Tokens whose bytes are names where they are read as names.
use Rattle.std.specs.Prelude.{◌≡◌, List, [], ◌∷◌, codes}
use Rattle.tw_parse.specs.Words.{Lexeme}
use Rattle.tw_parse.specs.declared.words.Word.TheVariants.{Name, Underscore}
use Rattle.law_reading_back.specs.Names.{IsName}

-- what is read as a name is an identifier without a fixed meaning, and what is read as `_` is that
pub record IsSpelled (x : Lexeme) : Type 0 where
  pub name : x.word ≡ Name → IsName x.bytes
  pub hole : x.word ≡ Underscore → x.bytes ≡ codes "_"

-- each of them is such
abbrev pub AreSpelled : List Lexeme → Type 0
AreSpelled [] = Unit {0}
AreSpelled (x ∷ xs) = IsSpelled x × AreSpelled xs
