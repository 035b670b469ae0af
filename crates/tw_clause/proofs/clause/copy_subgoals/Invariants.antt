use Rattle.std.proofs.Common.{◌≡◌, map, take}
use Rattle.tw_clause.specs.View.{subgoal_of}
use Rattle.tw_clause.proofs.clause.copy_subgoals.Given as goal

abbrev pub invariant-loop-subgoal : goal.invariant-loop-subgoal
invariant-loop-subgoal l = map subgoal_of l.copies.items ≡ map subgoal_of (take l.subgoal-index l.subgoals)
