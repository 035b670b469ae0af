use Rattle.std.proofs.Common.{take}
use Rattle.lf.specs.Subordination.{Member}
use Rattle.tw_order.proofs.leading.has_number.Given as goal

abbrev pub invariant-loop-other : goal.invariant-loop-other
invariant-loop-other l = Member l.number (take l.other-index l.numbers) → ⊥
