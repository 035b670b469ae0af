-- What a token is in the grammar.
use Rattle.std.specs.Prelude.{ℕ, List, [], ◌∷◌, Bool, true, false, Option, None, Some, map, codes, slice_range, if◌then◌else◌}
use Rattle.std.specs.Str.{bytes_eq}
use Rattle.tw_lexer.specs.declared.place.Place.{Place}
use Rattle.tw_lexer.specs.declared.token.Token.{Token}
use Rattle.tw_lexer.specs.declared.token.TokenKind.{TokenKind}
use Rattle.tw_lexer.specs.declared.token.TokenKind.TheVariants as kinds
use Rattle.tw_parse.specs.declared.words.Word.{Word}
use Rattle.tw_parse.specs.declared.words.Word.TheVariants.{Name, Forward, Backward, Underscore, Star as StarWord, Equals, Keyword, Colon, Dot, LParen, RParen, LBrace, RBrace, LBracket, RBracket, End}
use Rattle.tw_parse.specs.declared.words.Separator.{Separator}
use Rattle.tw_parse.specs.declared.words.Separator.TheVariants as separators
use Rattle.tw_parse.specs.declared.words.Binder.{Binder}
use Rattle.tw_parse.specs.declared.words.Binder.TheVariants as binders

-- an identifier with a fixed meaning, or a name
abbrev pub fixed_word : List ℕ → Word
fixed_word bytes =
    if bytes_eq bytes (codes "->") then Forward else
    if bytes_eq bytes (codes "<-") then Backward else
    if bytes_eq bytes (codes "_") then Underscore else
    if bytes_eq bytes (codes "=") then Equals else
    if bytes_eq bytes (codes "type") then StarWord else
    Name

abbrev pub word_of : TokenKind → List ℕ → Word
word_of kinds.Ident bytes = fixed_word bytes
word_of kinds.Keyword bytes = Keyword
word_of kinds.Colon bytes = Colon
word_of kinds.Dot bytes = Dot
word_of kinds.LParen bytes = LParen
word_of kinds.RParen bytes = RParen
word_of kinds.LBrace bytes = LBrace
word_of kinds.RBrace bytes = RBrace
word_of kinds.LBracket bytes = LBracket
word_of kinds.RBracket bytes = RBracket
word_of kinds.End bytes = End

abbrev pub separator_of : Word → Option Separator
separator_of Forward = Some separators.Forward
separator_of Backward = Some separators.Backward
separator_of Colon = Some separators.Colon
separator_of _ = None

abbrev pub binder_of : Word → Option Binder
binder_of LBrace = Some binders.Pi
binder_of LBracket = Some binders.Lambda
binder_of _ = None

-- what closes the binder's bracket
abbrev pub closer_of : Binder → Word
closer_of binders.Pi = RBrace
closer_of binders.Lambda = RBracket

abbrev pub begins_atom : Word → Bool
begins_atom Name = true
begins_atom Underscore = true
begins_atom StarWord = true
begins_atom LParen = true
begins_atom _ = false

-- a name, or `_`, which names nothing
abbrev pub is_bindable : Word → Bool
is_bindable Name = true
is_bindable Underscore = true
is_bindable _ = false

-- a token with its bytes, as the grammar reads it
pub record Lexeme : Type 0 where
  pub word : Word
  pub bytes : List ℕ
  pub at : Place

abbrev pub lexeme : List ℕ → Token → Lexeme
lexeme text t = record { word = word_of t.kind (slice_range text t.from t.upto); bytes = slice_range text t.from t.upto; at = t.at }

abbrev pub lexemes : List ℕ → List Token → List Lexeme
lexemes text tokens = map (lexeme text) tokens

-- the word that stands first, or the end
abbrev pub first_word : List Lexeme → Word
first_word [] = End
first_word (x ∷ xs) = x.word

abbrev pub first_bytes : List Lexeme → List ℕ
first_bytes [] = []
first_bytes (x ∷ xs) = x.bytes

-- the place of what stands first, where this place is that of the end
abbrev pub first_place : Place → List Lexeme → Place
first_place end [] = end
first_place end (x ∷ xs) = x.at
