-- The characters of a text, by UTF-8.
use Rattle.std.specs.Prelude.{ℕ, List, [], ◌∷◌, drop, Option, Some, None}
use Rattle.bstr.specs.Utf8.{Decoded, decoded, pieces}

-- What stands first in these bytes, by Unicode's table of well-formed byte sequences: a character and how many bytes it takes, or bytes that
-- begin none, as many of them as could begin one.
unfoldable pub first_piece : List ℕ → Decoded
first_piece bytes = decoded bytes

-- the characters that these bytes spell, in order, and between them what is none
unfoldable pub pieces_of : List ℕ → List Decoded
pieces_of bytes = pieces bytes

-- the same of the bytes of a text from one on
abbrev pub pieces_from : List ℕ → ℕ → List Decoded
pieces_from text from = pieces_of (drop from text)

-- the character that stands at a byte of the text, and how many bytes it takes
abbrev pub char_at : List ℕ → ℕ → Option ℕ
char_at text i = (first_piece (drop i text)).char

abbrev pub size_at : List ℕ → ℕ → ℕ
size_at text i = (first_piece (drop i text)).size

-- the character that stands first, where one does
abbrev pub head_char : List Decoded → Option ℕ
head_char [] = None
head_char (p ∷ ps) = p.char
