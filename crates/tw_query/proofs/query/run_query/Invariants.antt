use Rattle.std.proofs.Common.{◌-◌, ◌^◌, length}
use Rattle.tw_signature.specs.Goal.{goal_of}
use Rattle.tw_query.specs.UnderWay.{IsUnderWay}
use Rattle.tw_query.specs.View.{bound_of}
use Rattle.tw_query.proofs.query.run_query.Given as goal

abbrev pub invariant-loop-running : goal.invariant-loop-running
invariant-loop-running l = IsUnderWay l.signature (goal_of l.goal) (bound_of l.bound) l.budget l.running

-- each step adds a leaf
abbrev pub decreases-loop-running : goal.decreases-loop-running
decreases-loop-running l = 2 ^ 64 - length l.running.leaves.items
