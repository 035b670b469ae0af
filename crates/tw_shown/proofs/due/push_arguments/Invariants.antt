use Rattle.std.proofs.Common.{vec_len}
use Rattle.tw_shown.specs.Due.{PutsBehind, stacked}
use Rattle.tw_shown.proofs.due.push_arguments.Given as goal

abbrev pub invariant-loop-left : goal.invariant-loop-left
invariant-loop-left l = PutsBehind l.inner l.hidden l.fn.arguments.items l.left.items (stacked l.fn.due.items) (stacked l.due.items)

abbrev pub decreases-loop-left : goal.decreases-loop-left
decreases-loop-left l = vec_len l.left
