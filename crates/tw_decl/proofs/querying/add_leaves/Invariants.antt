use Rattle.std.proofs.Common.{◌≡◌, ◌+◌, ◌≤◌, ◌++◌, drop}
use Rattle.tw_signature.specs.Goal.{goal_of}
use Rattle.tw_decl.specs.SearchSteps.{AreAnswers}
use Rattle.tw_decl.specs.Searching.{lines_of_leaves}
use Rattle.tw_decl.proofs.querying.add_leaves.Given as goal

-- the lines so far, and those of the leaves that are left
abbrev pub invariant-loop-leaf : goal.invariant-loop-leaf
invariant-loop-leaf l = record {
  so_far : l.text.items ++ lines_of_leaves l.session (goal_of l.goal) l.number (drop l.leaf-index l.leaves) ≡ l.fn.text.items ++ lines_of_leaves l.session (goal_of l.goal) 1 l.leaves;
  answers : AreAnswers l.session.signature (goal_of l.goal) (drop l.leaf-index l.leaves);
  most : l.number ≤ l.leaf-index + 1;
}
