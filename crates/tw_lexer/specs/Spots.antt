-- Spots in a text.
use Rattle.std.specs.Prelude.{◌≡◌, ◌≤◌, ◌<◌, ◌+◌, ℕ, List, length, Ok, Err, Some}
use Rattle.std.specs.declared.result.Result.{Result}
use Rattle.tw_lexer.specs.Characters.{pieces_from, char_at, size_at}
use Rattle.tw_lexer.specs.Places.{place_of}
use Rattle.tw_lexer.specs.Tokens.{Search, between, find}
use Rattle.tw_lexer.specs.declared.place.Place.{Place}
use Rattle.tw_lexer.specs.declared.character.Spot.{Spot}

-- a spot's byte is one of the text, or the end, and its place is that byte's
pub record IsSpot (text : List ℕ) (spot : Spot) : Type 0 where
  pub within : spot.byte ≤ length text
  pub at : spot.place ≡ place_of text spot.byte

-- this character stands at a spot, and that is the spot behind it
pub record IsBehind (text : List ℕ) (spot next : Spot) (c : ℕ) : Type 0 where
  pub stands : char_at text spot.byte ≡ Some c
  pub byte : next.byte ≡ spot.byte + size_at text spot.byte
  pub later : spot.byte < next.byte
  pub there : IsSpot text next

-- A search is passed on: what it finds from here on is what a search between tokens finds from a later spot on, or it is a fault.
abbrev pub GoesOn : List ℕ → Search → ℕ → Result Spot Place → Type 0
GoesOn text state from (Ok spot) = IsSpot text spot × (from ≤ spot.byte) × (find text from (pieces_from text from) state ≡ find text spot.byte (pieces_from text spot.byte) between)
GoesOn text state from (Err place) = find text from (pieces_from text from) state ≡ Err place
