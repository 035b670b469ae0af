use Rattle.std.proofs.Common.{vec_len}
use Rattle.tw_order.proofs.Reaching.{SoFar}
use Rattle.tw_order.proofs.leading.leads.Given as goal

abbrev pub invariant-loop-place : goal.invariant-loop-place
invariant-loop-place l = SoFar l.edges l.from l.reached.items l.left.items

abbrev pub decreases-loop-place : goal.decreases-loop-place
decreases-loop-place l = vec_len l.left
