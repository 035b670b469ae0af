-- Laws of how a text is cut and read.
use Rattle.std.specs.Prelude.{◌≡◌, ◌≤◌, ◌⊎◌, ◌↔◌, ℕ, List, ◌++◌, length, take, drop, Some, Ok, false}
use Rattle.std.specs.Char.{IsScalar, encode_utf8}
use Rattle.tw_lexer.specs.Characters.{first_piece}
use Rattle.tw_lexer.specs.Cut.{cut_after, is_done}
use Rattle.tw_lexer.specs.Tokens.{first_token, Leads, ThroughDot, IsFew, HasFault, HasTooMany}
use Rattle.tw_lexer.specs.declared.cut.Cut.{Cut}
use Rattle.tw_lexer.specs.declared.cut.Cut.TheVariants.{Plain, Done}
use Rattle.tw_lexer.specs.declared.place.Place.{Place}
use Rattle.tw_lexer.specs.declared.token.Token.{Token}
use Rattle.tw_lexer.specs.declared.token.TokenKind.TheVariants.{Dot}

-- a text that comes in pieces is cut as the whole text
abbrev pub PiecesAreTheWhole : Type 0
PiecesAreTheWhole = (state : Cut) (xs ys : List ℕ) → cut_after state (xs ++ ys) ≡ cut_after (cut_after state xs) ys

-- what is done stays done
abbrev pub DoneStays : Type 0
DoneStays = (xs : List ℕ) → cut_after Done xs ≡ Done

-- the dot at which a text is cut is the first one that reading finds
abbrev pub CutIsTheDot : Type 0
CutIsTheDot = (text : List ℕ) (ts : List Token) (upto : ℕ) (t : Token) → Leads text 0 ts upto → first_token text upto ≡ Ok t → t.kind ≡ Dot
    → (is_done (cut_after Plain (take t.from text)) ≡ false) × (cut_after Plain (take t.upto text) ≡ Done)

-- a character stands first in some bytes exactly where they begin with its UTF-8
pub record Begins (bytes : List ℕ) (c size : ℕ) : Type 0 where
  pub scalar : IsScalar c
  pub spelled : bytes ≡ encode_utf8 c ++ drop size bytes
  pub width : size ≡ length (encode_utf8 c)

abbrev pub CharactersAreUtf8 : Type 0
CharactersAreUtf8 = (bytes : List ℕ) (c size : ℕ) → (((first_piece bytes).char ≡ Some c) × ((first_piece bytes).size ≡ size)) ↔ Begins bytes c size

-- from a byte on there is one list of tokens through the first dot, and it reaches one byte
abbrev pub TokensAreUnique : Type 0
TokensAreUnique = (text : List ℕ) (from : ℕ) (ts us : List Token) (m n : ℕ) → ThroughDot text from ts m → ThroughDot text from us n → (ts ≡ us) × (m ≡ n)

-- the first fault before a dot stands at one place
abbrev pub FaultIsUnique : Type 0
FaultIsUnique = (text : List ℕ) (from : ℕ) (p q : Place) → HasFault text from p → HasFault text from q → p ≡ q

-- and so does the first token that is one too many
abbrev pub TooManyIsUnique : Type 0
TooManyIsUnique = (text : List ℕ) (from : ℕ) (p q : Place) → HasTooMany text from p → HasTooMany text from q → p ≡ q

-- what has a fault before its first dot has no tokens through that dot
abbrev pub FaultExcludesTokens : Type 0
FaultExcludesTokens = (text : List ℕ) (from : ℕ) (ts : List Token) (upto : ℕ) (place : Place) → ThroughDot text from ts upto → HasFault text from place → ⊥

-- what has too many tokens has not as few as a declaration may have, and no fault before them
abbrev pub TooManyExcludesTokens : Type 0
TooManyExcludesTokens = (text : List ℕ) (from : ℕ) (ts : List Token) (upto : ℕ) (place : Place) → ThroughDot text from ts upto → IsFew ts → HasTooMany text from place → ⊥

abbrev pub TooManyExcludesFault : Type 0
TooManyExcludesFault = (text : List ℕ) (from : ℕ) (p q : Place) → HasFault text from p → HasTooMany text from q → ⊥

-- a text has its tokens through the first dot, or a fault before it, or too many tokens
abbrev pub TextIsRead : Type 0
TextIsRead = (text : List ℕ) (from : ℕ) → from ≤ length text
    → ((ts : List Token) × (upto : ℕ) × ThroughDot text from ts upto × IsFew ts) ⊎ (((place : Place) × HasFault text from place) ⊎ ((place : Place) × HasTooMany text from place))
