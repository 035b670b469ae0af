-- What a sink over a writer does to the bytes that the writer holds.
use Rattle.std.specs.Prelude.{ℕ, List, take}
use Rattle.std.specs.Io.KnownBytes.{Appends}
use Rattle.std.specs.declared.option.Option.{Option}
use Rattle.tw_ports.specs.declared.ports.WriteAnswer.{WriteAnswer}
use Rattle.tw_ports.specs.declared.ports.WriteAnswer.TheVariants as writes

-- the bytes taken stand at the end of what the writer held; a write that failed, as by a failed flush, may have
-- left a front of the piece there
abbrev pub PassesOn : Option (List ℕ) → Option (List ℕ) → WriteAnswer → List ℕ → Type 0
PassesOn old new (writes.Took n) piece = Appends old new (take n piece)
PassesOn old new writes.Failed piece = (n : ℕ) × Appends old new (take n piece)
