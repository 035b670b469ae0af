use Rattle.std.proofs.Common.{◌≡◌, drop}
use Rattle.tw_query.proofs.free.scope_of.Given as goal

abbrev pub invariant-loop-place : goal.invariant-loop-place
invariant-loop-place l = l.scope ≡ drop l.place l.names
