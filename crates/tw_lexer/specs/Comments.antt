-- What a `%` begins, and how far a comment goes.
use Rattle.std.specs.Prelude.{ℕ, Bool, true, false, nat_le, ◌+◌, ◌-◌, ◌==◌, ◌||◌, ◌&&◌, if◌then◌else◌, Option, Some, None, List, [], ◌∷◌}
use Rattle.bstr.specs.Utf8.{Decoded}
use Rattle.tw_lexer.specs.Bytes.{is_white_space}
use Rattle.tw_lexer.specs.Characters.{head_char}
use Rattle.tw_lexer.specs.Classes.{class_of}
use Rattle.tw_lexer.specs.declared.class.Class.{Class}
use Rattle.tw_lexer.specs.declared.class.Class.TheVariants.{Plain}
use Rattle.tw_lexer.specs.declared.comment.Sign.{Sign}
use Rattle.tw_lexer.specs.declared.comment.Sign.TheVariants.{LineComment, Comment, Stop, Word, Nothing}
use Rattle.tw_lexer.specs.declared.comment.Bracket.{Bracket}
use Rattle.tw_lexer.specs.declared.comment.Bracket.TheVariants.{Opens, Closes, Neither}

-- Behind a `%`, white space of ASCII and a second `%` begin a comment to the end of the line, `{` one to its `}%`; a dot ends the text, and a
-- plain character begins a word. With another character, or with bytes that are none, the `%` begins nothing.
abbrev pub sign_by_class : Class → Sign
sign_by_class Plain = Word
sign_by_class _ = Nothing

abbrev pub sign_by_char : Option ℕ → Sign
sign_by_char None = Nothing
sign_by_char (Some c) =
    if is_white_space c || (c == 37) then LineComment else
    if c == 123 then Comment else
    if c == 46 then Stop else
    sign_by_class (class_of c)

-- the end of the text ends the line
abbrev pub sign_of : List Decoded → Sign
sign_of [] = LineComment
sign_of (p ∷ ps) = sign_by_char p.char

-- a character is this one
abbrev pub is_char : ℕ → Option ℕ → Bool
is_char c None = false
is_char c (Some d) = d == c

-- two characters side by side in a comment: `%{` opens, `}%` closes
abbrev pub bracket_of : Option ℕ → Option ℕ → Bracket
bracket_of first second =
    if is_char 37 first && is_char 123 second then Opens else
    if is_char 125 first && is_char 37 second then Closes else
    Neither

-- where a comment stands: so many `%{` are open; or the last of them closes, and the `%` of its `}%` is still to come
pub data Nesting : Type 0 where
  deep : ℕ → Nesting
  closing : ℕ → Nesting

-- behind a character, where another one follows: nothing, where the comment is closed
abbrev pub nesting_by : ℕ → Bracket → Nesting
nesting_by n Opens = deep (n + 1)
nesting_by n Closes = closing n
nesting_by n Neither = deep n

abbrev pub nesting_after : Nesting → Option ℕ → Option ℕ → Option Nesting
nesting_after (deep n) first second = Some (nesting_by n (bracket_of first second))
nesting_after (closing n) first second = if nat_le n 1 then None else Some (deep (n - 1))

-- closed already, or further on
abbrev pub is_closed_by : Option Nesting → (Nesting → Bool) → Bool
is_closed_by None on = true
is_closed_by (Some nesting) on = on nesting

-- the comment is closed somewhere in these
abbrev pub is_closed : Nesting → List Decoded → Bool
is_closed nesting [] = false
is_closed nesting (p ∷ ps) = is_closed_by (nesting_after nesting p.char (head_char ps)) (λ n. is_closed n ps)
