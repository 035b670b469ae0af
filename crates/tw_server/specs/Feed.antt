-- What is read from a source and looked at byte by byte.
use Rattle.std.specs.Prelude.{◌≡◌, ◌≢◌, ℕ, ◌+◌, ◌≤◌, List, [], ◌∷◌, length, Ok, Err}
use Rattle.std.specs.Io.KnownBytes.{Consumes, Keeps, IsAtEnd, prepend_known}
use Rattle.std.specs.declared.option.Option.{Option}
use Rattle.std.specs.declared.result.Result.{Result}
use Rattle.tw_server.specs.declared.feed.Stop.{Stop}
use Rattle.tw_server.specs.declared.feed.Stop.TheVariants as stops
use Rattle.tw_server.specs.Limits.{input_limit}

-- the bytes that were read and not yet looked at, and how many were looked at
pub record Pending : Type 0 where
  pub held : List ℕ
  pub seen : ℕ

-- Why nothing more is looked at: the input has ended, a read failed, or a further byte is there after as many as are taken.
abbrev pub Stopped : Stop → Pending → Option (List ℕ) → Type 0
Stopped stops.End feed left = (feed.held ≡ []) × IsAtEnd left
Stopped stops.Failed feed left = feed.held ≡ []
Stopped stops.Long feed left = (feed.held ≢ []) × (feed.seen ≡ input_limit)

-- These bytes were looked at: they come first in what was held and left before.
pub record Sees (old : Pending) (left : Option (List ℕ)) (new : Pending) (left' : Option (List ℕ)) (bytes : List ℕ) : Type 0 where
  pub first : Consumes (prepend_known old.held left) (prepend_known new.held left') bytes
  pub counted : new.seen ≡ old.seen + length bytes

-- something is held, or nothing more can be
abbrev pub Fills : Pending → Option (List ℕ) → Pending → Option (List ℕ) → Result (Unit {0}) Stop → Type 0
Fills old left new left' (Ok done) = Keeps (prepend_known old.held left) (prepend_known new.held left') × (new.held ≢ []) × (new.seen ≡ old.seen) × (new.seen ≤ input_limit)
Fills old left new left' (Err stop) = Keeps (prepend_known old.held left) (prepend_known new.held left') × Stopped stop new left' × (new.seen ≡ old.seen) × (new.seen ≤ input_limit)

-- what looking at one byte gives
abbrev pub GivesByte : Pending → Option (List ℕ) → Pending → Option (List ℕ) → Result ℕ Stop → Type 0
GivesByte old left new left' (Ok b) = Sees old left new left' (b ∷ []) × (new.seen ≤ input_limit)
GivesByte old left new left' (Err stop) = Sees old left new left' [] × Stopped stop new left' × (new.seen ≤ input_limit)
