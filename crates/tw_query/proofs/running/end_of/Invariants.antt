use Rattle.std.proofs.Common.{◌≡◌, drop}
use Rattle.tw_query.specs.Runs.{end_in}
use Rattle.tw_query.proofs.running.end_of.Given as goal

abbrev pub invariant-loop-leaf : goal.invariant-loop-leaf
invariant-loop-leaf l = end_in (drop l.leaf-index l.leaves) ≡ end_in l.leaves
