use Rattle.std.proofs.Common.{◌≡◌, None, replicate}
use Rattle.tw_query.proofs.free.nameless.Given as goal

abbrev pub invariant-loop : goal.invariant-loop
invariant-loop l = l.names.items ≡ replicate l.counter None
