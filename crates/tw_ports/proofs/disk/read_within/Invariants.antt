use Rattle.std.proofs.Common.{◌-◌, ◌≤◌, length}
use Rattle.std.specs.Io.KnownBytes.{Consumes}
use Rattle.tw_ports.proofs.disk.read_within.Given as goal

-- what was read so far is no more than the limit
abbrev pub invariant-pieces : goal.invariant-pieces
invariant-pieces g l = (length l.bytes.items ≤ l.limit) × Consumes (g.R.Read.remaining l.fn.reader) (g.R.Read.remaining l.reader) l.bytes.items

abbrev pub decreases-pieces : goal.decreases-pieces
decreases-pieces g l = l.limit - length l.bytes.items
