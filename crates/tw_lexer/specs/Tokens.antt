-- The tokens of a text.
use Rattle.std.specs.Prelude.{◌≡◌, ◌≢◌, ◌≤◌, ℕ, ◌+◌, List, [], ◌∷◌, length, Bool, true, false, Ok, Err, Option, Some, None, ◌==◌, if◌then◌else◌}
use Rattle.std.specs.Bool.{MatchBool}
use Rattle.std.specs.declared.result.Result.{Result}
use Rattle.bstr.specs.Utf8.{Decoded}
use Rattle.tw_lexer.specs.Characters.{pieces_from, head_char}
use Rattle.tw_lexer.specs.Classes.{piece_class, run_length}
use Rattle.tw_lexer.specs.Comments.{sign_of, Nesting, deep, nesting_after, is_closed}
use Rattle.tw_lexer.specs.Places.{place_of}
use Rattle.tw_lexer.specs.declared.place.Place.{Place}
use Rattle.tw_lexer.specs.declared.class.Class.{Class}
use Rattle.tw_lexer.specs.declared.class.Class.TheVariants.{WhiteSpace, Mark, Percent, Plain, Bad}
use Rattle.tw_lexer.specs.declared.comment.Sign.{Sign}
use Rattle.tw_lexer.specs.declared.comment.Sign.TheVariants.{LineComment, Comment, Stop, Word, Nothing}
use Rattle.tw_lexer.specs.declared.token.Token.{Token}
use Rattle.tw_lexer.specs.declared.token.Tokens.{Tokens}
use Rattle.tw_lexer.specs.declared.token.TokenKind.{TokenKind}
use Rattle.tw_lexer.specs.declared.token.TokenKind.TheVariants.{Ident, Keyword, Dot, End}
use Rattle.tw_lexer.specs.declared.lexer.LexFault.{LexFault}
use Rattle.tw_lexer.specs.declared.lexer.LexFault.TheVariants as faults

-- a token of the text, from one byte up to another
abbrev pub token : List ℕ → TokenKind → ℕ → ℕ → Token
token text kind from upto = record { kind = kind; from = from; upto = upto; at = place_of text from }

-- where the search for a token stands: between tokens; in a comment to the end of its line; or in one that began at a place, and how deep
pub data Search : Type 0 where
  between : Search
  in_line : Search
  in_comment : Place → Nesting → Search

-- What a `%` at this byte begins. `next` is the byte behind it, `behind` are the characters from there on, and `on` is what a search finds there,
-- by where it stands. A keyword is `%` with the longest run of plain characters behind it, and `%.` is the end of the text.
abbrev pub percent_by : List ℕ → ℕ → ℕ → List Decoded → (Search → Result Token Place) → Sign → Result Token Place
percent_by text from next behind on LineComment = on in_line
percent_by text from next behind on Comment = on (in_comment (place_of text from) (deep 1))
percent_by text from next behind on Stop = Ok (token text End from from)
percent_by text from next behind on Word = Ok (token text Keyword from (next + run_length behind))
percent_by text from next behind on Nothing = Err (place_of text from)

-- What a character of this class at this byte begins, between tokens. White space parts tokens, and an identifier is the longest run of plain
-- characters.
abbrev pub token_by : List ℕ → ℕ → ℕ → List Decoded → (Search → Result Token Place) → Class → Result Token Place
token_by text from next behind on WhiteSpace = on between
token_by text from next behind on (Mark kind) = Ok (token text kind from next)
token_by text from next behind on Percent = percent_by text from next behind on (sign_of behind)
token_by text from next behind on Plain = Ok (token text Ident from (next + run_length behind))
token_by text from next behind on Bad = Err (place_of text from)

-- in a comment to the end of its line nothing counts but the line feed, and that there are characters
abbrev pub line_by : Place → (Search → Result Token Place) → Option ℕ → Result Token Place
line_by place on None = Err place
line_by place on (Some c) = on (if c == 10 then between else in_line)

abbrev pub search_by : Place → Option Nesting → Search
search_by begin None = between
search_by begin (Some nesting) = in_comment begin nesting

-- In a comment, bytes that are no character are a fault where they stand, unless the comment is never closed: then it is the fault, where it begins.
abbrev pub comment_by : Place → Place → Bool → (Option ℕ → Search) → (Search → Result Token Place) → Option ℕ → Result Token Place
comment_by begin place closed state on None = Err (if closed then place else begin)
comment_by begin place closed state on (Some c) = on (state (Some c))

-- what is found from the first of these characters on, by where the search stands
abbrev pub find_by : List ℕ → ℕ → Decoded → List Decoded → (Search → Result Token Place) → Search → Result Token Place
find_by text from p ps on between = token_by text from (from + p.size) ps on (piece_class p.char)
find_by text from p ps on in_line = line_by (place_of text from) on p.char
find_by text from p ps on (in_comment begin nesting) =
    comment_by begin (place_of text from) (is_closed nesting (p ∷ ps)) (λ c. search_by begin (nesting_after nesting c (head_char ps))) on p.char

-- what is found at the end of the text
abbrev pub find_at_end : List ℕ → ℕ → Search → Result Token Place
find_at_end text from between = Ok (token text End from from)
find_at_end text from in_line = Ok (token text End from from)
find_at_end text from (in_comment begin nesting) = Err begin

-- the first token of the characters that stand in the text from this byte on, or the place of what is none
abbrev pub find : List ℕ → ℕ → List Decoded → Search → Result Token Place
find text from [] state = find_at_end text from state
find text from (p ∷ ps) state = find_by text from p ps (λ s. find text (from + p.size) ps s) state

-- the first token of the text from this byte on
abbrev pub first_token : List ℕ → ℕ → Result Token Place
first_token text from = find text from (pieces_from text from) between

-- whether a token ends a declaration
abbrev pub ends : TokenKind → Bool
ends Dot = true
ends End = true
ends _ = false

-- these are the tokens from a byte on, through the first dot or the end of the text, and so far they reach
abbrev pub ThroughDot : List ℕ → ℕ → List Token → ℕ → Type 0
ThroughDot text from [] upto = ⊥
ThroughDot text from (t ∷ ts) upto = (first_token text from ≡ Ok t) × MatchBool (ends t.kind) ((ts ≡ []) × (upto ≡ t.upto)) (ThroughDot text t.upto ts upto)

-- these tokens stand one behind the other from one byte to another, and none of them ends a declaration
abbrev pub Leads : List ℕ → ℕ → List Token → ℕ → Type 0
Leads text from [] upto = from ≡ upto
Leads text from (t ∷ ts) upto = (first_token text from ≡ Ok t) × (ends t.kind ≡ false) × Leads text t.upto ts upto

-- the limit counts every token but the end of the text
abbrev pub is_counted_kind : TokenKind → Bool
is_counted_kind End = false
is_counted_kind _ = true

abbrev pub is_counted : Token → Bool
is_counted t = is_counted_kind t.kind

abbrev pub token_count : List Token → ℕ
token_count [] = 0
token_count (t ∷ ts) = if is_counted t then 1 + token_count ts else token_count ts

-- a declaration has 65,536 tokens at most
abbrev pub IsFew : List Token → Type 0
IsFew ts = token_count ts ≤ 65536

-- the first fault of the text from a byte on stands here, before any dot and behind no more tokens than a declaration may have
pub record HasFault (text : List ℕ) (from : ℕ) (place : Place) : Type 0 where
  pub tokens : List Token
  pub upto : ℕ
  pub leads : Leads text from tokens upto
  pub few : length tokens ≤ 65536
  pub fault : first_token text upto ≡ Err place

-- the first token that is one too many stands here: 65,536 stand before it, and no dot and no fault
pub record HasTooMany (text : List ℕ) (from : ℕ) (place : Place) : Type 0 where
  pub tokens : List Token
  pub upto : ℕ
  pub next : Token
  pub leads : Leads text from tokens upto
  pub full : length tokens ≡ 65536
  pub more : first_token text upto ≡ Ok next
  pub not_end : next.kind ≢ End
  pub at : place ≡ next.at

-- what reading a declaration's tokens gives
abbrev pub Lexes : List ℕ → ℕ → Result Tokens LexFault → Type 0
Lexes text from (Ok tokens) = ThroughDot text from tokens.list.items tokens.upto × (tokens.at ≡ place_of text tokens.upto) × IsFew tokens.list.items
Lexes text from (Err (faults.Bad place)) = HasFault text from place
Lexes text from (Err (faults.TooMany place)) = HasTooMany text from place
Lexes text from (Err faults.NoMemory) = Unit {0}

-- the token's bytes lie in a text of this length
abbrev pub IsWithin : ℕ → Token → Type 0
IsWithin len t = (t.from ≤ t.upto) × (t.upto ≤ len)
