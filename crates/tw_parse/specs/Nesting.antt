-- How deep brackets are nested.
use Rattle.std.specs.Prelude.{ℕ, ◌+◌, List, [], ◌∷◌, Bool, true, false, Option, None, Some, nat_le, if◌then◌else◌}
use Rattle.tw_lexer.specs.declared.place.Place.{Place}
use Rattle.tw_parse.specs.Words.{Lexeme}
use Rattle.tw_parse.specs.declared.nesting.Bracket.{Bracket}
use Rattle.tw_parse.specs.declared.nesting.Bracket.TheVariants.{Paren, Brace, Square}
use Rattle.tw_parse.specs.declared.nesting.Open.{Open}
use Rattle.tw_parse.specs.declared.words.Word.{Word}
use Rattle.tw_parse.specs.declared.words.Word.TheVariants.{LParen, RParen, LBrace, RBrace, LBracket, RBracket}

-- the bracket that a word opens
abbrev pub bracket_of : Word → Option Bracket
bracket_of LParen = Some Paren
bracket_of LBrace = Some Brace
bracket_of LBracket = Some Square
bracket_of _ = None

abbrev pub closes : Bracket → Word → Bool
closes Paren RParen = true
closes Brace RBrace = true
closes Square RBracket = true
closes _ _ = false

-- the level behind the closing bracket: a parenthesis goes back to the level before it, and the others to that just behind the opening one
abbrev pub level_behind : Bracket → ℕ → ℕ
level_behind Paren level = level
level_behind Brace level = level + 1
level_behind Square level = level + 1

-- the brackets that a word that opens none leaves open, the innermost first, and the level behind it
abbrev pub brackets_behind : List Open → Word → List Open
brackets_behind [] word = []
brackets_behind (top ∷ rest) word = if closes top.bracket word then rest else top ∷ rest

abbrev pub level_after : List Open → ℕ → Word → ℕ
level_after [] level word = level
level_after (top ∷ rest) level word = if closes top.bracket word then top.behind else level

-- the place of the first token that opens a bracket beyond the limit, where these brackets are open at this level
abbrev pub first_too_deep : List Open → ℕ → List Lexeme → Option Place
first_too_deep brackets level [] = None
first_too_deep brackets level (x ∷ xs) =
    elim (bracket_of x.word) [
      | Some bracket ↦ if nat_le 1000 level then Some x.at else first_too_deep (record { bracket = bracket; behind = level_behind bracket level } ∷ brackets) (level + 1) xs
      | None ↦ first_too_deep (brackets_behind brackets x.word) (level_after brackets level x.word) xs
    ]
