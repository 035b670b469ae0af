use Rattle.std.proofs.Common.{◌≤◌}
use Rattle.tw_mode.proofs.check.place_is_moded.Given as goal

abbrev pub invariant-loop-place : goal.invariant-loop-place
invariant-loop-place l = l.place ≤ l.number
