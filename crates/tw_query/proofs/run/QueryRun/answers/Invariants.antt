use Rattle.std.proofs.Common.{◌≡◌, ◌+◌, ◌≤◌, drop}
use Rattle.tw_query.specs.Runs.{answers_in}
use Rattle.tw_query.proofs.run.QueryRun.answers.Given as goal

abbrev pub invariant-loop-leaf : goal.invariant-loop-leaf
invariant-loop-leaf l = record {
  so_far : l.answers + answers_in (drop l.leaf-index l.self.leaves.items) ≡ answers_in l.self.leaves.items;
  most : l.answers ≤ l.leaf-index;
}
