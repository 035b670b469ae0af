-- What contracts see of the sources and sinks in memory, and exactly what one call on them does.
use Rattle.std.specs.Prelude.{◌≡◌, ℕ, zero, suc, ◌+◌, ◌⊎◌, min, Bool, true, nat_eq, nat_le, if◌then◌else◌, List, ◌++◌, length, take, drop, None, Some, MatchBool}
use Rattle.std.specs.List.{list_any}
use Rattle.std.specs.declared.option.Option.{Option}
use Rattle.tw_ports.specs.Ports.{count_after}
use Rattle.tw_ports.specs.declared.ports.ReadAnswer.{ReadAnswer}
use Rattle.tw_ports.specs.declared.ports.ReadAnswer.TheVariants as reads
use Rattle.tw_ports.specs.declared.ports.WriteAnswer.{WriteAnswer}
use Rattle.tw_ports.specs.declared.ports.WriteAnswer.TheVariants as writes

-- a source in memory that never fails: the bytes that are left, and the most that one read gives
pub record SureSupply : Type 0 where
  pub left : List ℕ
  pub piece : ℕ

-- a source in memory that fails where it is told to: also the numbers of the calls that fail, the calls so far, and
-- how many of them failed
pub record Supply : Type 0 where
  pub left : List ℕ
  pub piece : ℕ
  pub fails : List ℕ
  pub calls : ℕ
  pub faults : ℕ

-- a sink in memory that never fails: its room, and what was written, which it doesn't tell once a piece was dropped
pub record SureStore : Type 0 where
  pub room : ℕ
  pub written : Option (List ℕ)

-- a sink in memory that fails where it is told to
pub record Store : Type 0 where
  pub written : List ℕ
  pub fails : List ℕ
  pub calls : ℕ
  pub faults : ℕ

-- the answer to a read that gave so many bytes
abbrev pub read_answer : ℕ → ReadAnswer
read_answer zero = reads.End
read_answer (suc n) = reads.Got (suc n)

-- how many bytes one read gives: as many as the source's piece, the call's piece and what is left allow
abbrev pub given_count : ℕ → List ℕ → List ℕ → ℕ
given_count most left piece = min (min most (length piece)) (length left)

-- a read gives the next bytes, and keeps the others; the piece is as the call leaves it
pub record Gives (most : ℕ) (old new : List ℕ) (answer : ReadAnswer) (piece : List ℕ) : Type 0 where
  pub answered : answer ≡ read_answer (given_count most old piece)
  pub given : take (given_count most old piece) piece ≡ take (given_count most old piece) old
  pub kept : new ≡ drop (given_count most old piece) old

-- is the next call among those that fail?
abbrev pub is_to_fail : List ℕ → ℕ → Bool
is_to_fail fails calls = list_any (λ n. nat_eq n (count_after true calls)) fails

-- a read of a source that never fails
pub record SureRead (old new : SureSupply) (answer : ReadAnswer) (piece : List ℕ) : Type 0 where
  pub gives : Gives old.piece old.left new.left answer piece
  pub same_piece : new.piece ≡ old.piece

-- a read of a source that fails where it is told to: it fails exactly where its number is listed
pub record SupplyRead (old new : Supply) (answer : ReadAnswer) (piece : List ℕ) : Type 0 where
  pub gives : MatchBool (is_to_fail old.fails old.calls)
      ((answer ≡ reads.Failed) × (new.left ≡ old.left))
      (Gives old.piece old.left new.left answer piece)
  pub counted : new.calls ≡ count_after true old.calls
  pub same_piece : new.piece ≡ old.piece
  pub same_fails : new.fails ≡ old.fails

-- what a sink of this room tells after a piece: the piece is stored where it fits, and else it is dropped
abbrev pub stored : ℕ → Option (List ℕ) → List ℕ → Option (List ℕ)
stored room None piece = None
stored room (Some bytes) piece = if nat_le (length bytes + length piece) room then Some (bytes ++ piece) else None

-- a write to a sink that never fails: it takes the whole piece
pub record SureWrite (old new : SureStore) (answer : WriteAnswer) (piece : List ℕ) : Type 0 where
  pub answered : answer ≡ writes.Took (length piece)
  pub told : new.written ≡ stored old.room old.written piece
  pub same_room : new.room ≡ old.room

-- a write that fails
abbrev pub KeepsStore : Store → Store → WriteAnswer → Type 0
KeepsStore old new answer = (answer ≡ writes.Failed) × (new.written ≡ old.written)

-- a write that takes the whole piece
abbrev pub TakesPiece : Store → Store → WriteAnswer → List ℕ → Type 0
TakesPiece old new answer piece = (answer ≡ writes.Took (length piece)) × (new.written ≡ old.written ++ piece)

-- a write to a sink that fails where it is told to: it fails where its number is listed, and else takes the whole
-- piece or fails for want of memory
pub record StoreWrite (old new : Store) (answer : WriteAnswer) (piece : List ℕ) : Type 0 where
  pub takes : MatchBool (is_to_fail old.fails old.calls)
      (KeepsStore old new answer)
      (TakesPiece old new answer piece ⊎ KeepsStore old new answer)
  pub counted : new.calls ≡ count_after true old.calls
  pub same_fails : new.fails ≡ old.fails
