use Rattle.std.proofs.Common.{drop}
use Rattle.tw_signature.specs.Goal.{goal_of}
use Rattle.tests_search.specs.Shown.{AreAllShown}
use Rattle.tests_search.proofs.querying.show_run.Given as goal

abbrev pub invariant-loop-leaf : goal.invariant-loop-leaf
invariant-loop-leaf l = AreAllShown l.signature (goal_of l.goal) (drop l.leaf-index l.run.leaves.items)
