-- The classes of characters.
use Rattle.std.specs.Prelude.{ℕ, Bool, true, false, nat_lt, nat_le, ◌+◌, ◌==◌, ◌||◌, ◌&&◌, if◌then◌else◌, Option, Some, None, List, [], ◌∷◌}
use Rattle.unicode.specs.Binary.{is_white_space as is_unicode_white_space}
use Rattle.unicode.specs.GeneralCategory.{general_category}
use Rattle.ucd_category.specs.declared.GeneralCategory.{GeneralCategory}
use Rattle.ucd_category.specs.declared.GeneralCategory.TheVariants.{Control}
use Rattle.bstr.specs.Utf8.{Decoded}
use Rattle.tw_lexer.specs.Bytes.{is_white_space}
use Rattle.tw_lexer.specs.declared.token.TokenKind.TheVariants.{Colon, Dot, LParen, RParen, LBrace, RBrace, LBracket, RBracket}
use Rattle.tw_lexer.specs.declared.class.Class.{Class}
use Rattle.tw_lexer.specs.declared.class.Class.TheVariants.{WhiteSpace, Mark, Percent, Plain, Bad}

-- a quotation mark, or a control character of ASCII that is no white space
abbrev pub is_bad : ℕ → Bool
is_bad c = (c == 34) || (nat_lt c 9) || (nat_lt 13 c && nat_lt c 32) || (c == 127)

-- the general category Cc
abbrev pub is_control : GeneralCategory → Bool
is_control Control = true
is_control _ = false

-- past ASCII: white space by Unicode's property White_Space, and control characters by its category Cc
abbrev pub class_past_ascii : ℕ → Class
class_past_ascii c =
    if is_unicode_white_space c then WhiteSpace else
    if is_control (general_category c) then Bad else
    Plain

-- what a character is for: the marks are tokens by themselves, `%` begins a keyword or a comment, and every other character is plain
abbrev pub class_of : ℕ → Class
class_of c =
    if is_white_space c then WhiteSpace else
    if is_bad c then Bad else
    if c == 37 then Percent else
    if c == 58 then Mark Colon else
    if c == 46 then Mark Dot else
    if c == 40 then Mark LParen else
    if c == 41 then Mark RParen else
    if c == 123 then Mark LBrace else
    if c == 125 then Mark RBrace else
    if c == 91 then Mark LBracket else
    if c == 93 then Mark RBracket else
    if nat_lt c 128 then Plain else
    class_past_ascii c

-- what is no character is bad
abbrev pub piece_class : Option ℕ → Class
piece_class None = Bad
piece_class (Some c) = class_of c

-- a character of identifiers
abbrev pub is_plain_class : Class → Bool
is_plain_class Plain = true
is_plain_class _ = false

abbrev pub is_plain : Option ℕ → Bool
is_plain found = is_plain_class (piece_class found)

-- how many bytes the longest run of plain characters takes that stands first
abbrev pub run_length : List Decoded → ℕ
run_length [] = 0
run_length (p ∷ ps) = if is_plain p.char then p.size + run_length ps else 0
