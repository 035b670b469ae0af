use Rattle.std.proofs.Common.{◌≡◌, ◌≤◌, drop, length}
use Rattle.tw_approx.specs.Answer.{rows_of}
use Rattle.tw_resolve.specs.Resolved.{names_of}
use Rattle.tw_resolve.proofs.resolving.names.Given as goal

abbrev pub invariant-loop-left : goal.invariant-loop-left
invariant-loop-left l = (l.names ≡ names_of (rows_of (drop l.left l.rows))) × (l.left ≤ length l.rows)

abbrev pub decreases-loop-left : goal.decreases-loop-left
decreases-loop-left l = l.left
