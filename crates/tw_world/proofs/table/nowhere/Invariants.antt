use Rattle.std.proofs.Common.{◌≡◌}
use Rattle.tw_world.specs.Sequences.{none_said}
use Rattle.tw_world.proofs.table.nowhere.Given as goal

abbrev pub invariant-loop : goal.invariant-loop
invariant-loop l = l.table.items ≡ none_said l.counter
