use Rattle.std.proofs.Common.{◌≡◌}
use Rattle.tw_elaborate.specs.Operators.{applied_to, written_terms}
use Rattle.tw_written.specs.View.{written_of}
use Rattle.tw_elaborate.proofs.waiting.row.Given as goal

abbrev pub invariant-loop-head : goal.invariant-loop-head
invariant-loop-head l = applied_to (written_of l.head) (written_terms l.args.items) ≡ written_of l.fn.written
