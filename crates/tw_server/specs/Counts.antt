-- The counts of faults in the calls of the loop.
use Rattle.std.specs.Prelude.{◌≡◌, ℕ, Ok, Err, true}
use Rattle.std.specs.declared.result.Result.{Result}
use Rattle.tw_ports.specs.Ports.{count_after}
use Rattle.tw_server.specs.declared.status.Status.{Status}
use Rattle.tw_server.specs.declared.status.Status.TheVariants.{Done, BadWords, ReadFault, WriteFault, NoMemory, InputLong}
use Rattle.tw_server.specs.declared.feed.Stop.{Stop}
use Rattle.tw_server.specs.declared.feed.Stop.TheVariants as stops

-- the source's count rises where a read failed, and stays otherwise
abbrev pub CountsReads : {T : Type 0} → ℕ → ℕ → Result T Stop → Type 0
CountsReads before now (Ok x) = now ≡ before
CountsReads before now (Err stops.End) = now ≡ before
CountsReads before now (Err stops.Failed) = now ≡ count_after true before
CountsReads before now (Err stops.Long) = now ≡ before

-- the sink's count rises where a write failed, and stays otherwise
abbrev pub CountsWrites : {T E : Type 0} → ℕ → ℕ → Result T E → Type 0
CountsWrites before now (Ok x) = now ≡ before
CountsWrites before now (Err e) = now ≡ count_after true before

-- each count rises where the status names its fault, and stays otherwise
abbrev pub StatusCounts : ℕ → ℕ → ℕ → ℕ → Status → Type 0
StatusCounts read read' write write' ReadFault = (read' ≡ count_after true read) × (write' ≡ write)
StatusCounts read read' write write' WriteFault = (read' ≡ read) × (write' ≡ count_after true write)
StatusCounts read read' write write' Done = (read' ≡ read) × (write' ≡ write)
StatusCounts read read' write write' BadWords = (read' ≡ read) × (write' ≡ write)
StatusCounts read read' write write' NoMemory = (read' ≡ read) × (write' ≡ write)
StatusCounts read read' write write' InputLong = (read' ≡ read) × (write' ≡ write)

abbrev pub TurnCounts : {T : Type 0} → ℕ → ℕ → ℕ → ℕ → Result T Status → Type 0
TurnCounts read read' write write' (Ok x) = (read' ≡ read) × (write' ≡ write)
TurnCounts read read' write write' (Err status) = StatusCounts read read' write write' status
