-- What one call on a source or a sink does to what is told of it, and to its count of faults.
use Rattle.std.specs.Prelude.{◌≡◌, ℕ, ◌+◌, ◌-◌, ◌^◌, ◌<◌, ◌≤◌, min, List, [], ◌++◌, length, take, ⊤, None, Some, Bool, true, false}
use Rattle.std.specs.Io.KnownBytes.{Consumes, Keeps, IsAtEnd}
use Rattle.std.specs.declared.option.Option.{Option}
use Rattle.tw_ports.specs.declared.ports.ReadAnswer.{ReadAnswer}
use Rattle.tw_ports.specs.declared.ports.ReadAnswer.TheVariants as reads
use Rattle.tw_ports.specs.declared.ports.WriteAnswer.{WriteAnswer}
use Rattle.tw_ports.specs.declared.ports.WriteAnswer.TheVariants as writes

-- a count after an event that did or didn't come: one more where it came, and at its last value it stands still
abbrev pub count_after : Bool → ℕ → ℕ
count_after true n = min (n + 1) (2 ^ 64 - 1)
count_after false n = n

-- the bytes that a sink tells after a call are those that it told before it, and then bs; where it tells none now,
-- nothing is said
abbrev pub Gains : Option (List ℕ) → Option (List ℕ) → List ℕ → Type 0
Gains old None bs = ⊤
Gains None (Some ys) bs = ⊥
Gains (Some xs) (Some ys) bs = ys ≡ xs ++ bs

-- what a read does to the bytes that are left, where they are told; the piece is as the call leaves it
abbrev pub Reads : Option (List ℕ) → Option (List ℕ) → ReadAnswer → List ℕ → Type 0
Reads old new (reads.Got n) piece = (0 < n) × (n ≤ length piece) × Consumes old new (take n piece)
Reads old new reads.End piece = Keeps old new × IsAtEnd new
Reads old new reads.Failed piece = Keeps old new

-- what a write does to the bytes that were written, where they are told after it
abbrev pub Writes : Option (List ℕ) → Option (List ℕ) → WriteAnswer → List ℕ → Type 0
Writes old new (writes.Took n) piece = (0 < n) × (n ≤ length piece) × Gains old new (take n piece)
Writes old new writes.Failed piece = Gains old new []

-- a source's count of faults rises by one with the answer Failed, and with no other
abbrev pub ReadCounts : ℕ → ℕ → ReadAnswer → Type 0
ReadCounts before now (reads.Got n) = now ≡ count_after false before
ReadCounts before now reads.End = now ≡ count_after false before
ReadCounts before now reads.Failed = now ≡ count_after true before

-- a sink's count of faults rises by one with the answer Failed, and with no other
abbrev pub WriteCounts : ℕ → ℕ → WriteAnswer → Type 0
WriteCounts before now (writes.Took n) = now ≡ count_after false before
WriteCounts before now writes.Failed = now ≡ count_after true before
