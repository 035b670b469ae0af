use Rattle.std.proofs.Common.{◌≡◌, drop}
use Rattle.tw_decl.specs.Searching.{first_left}
use Rattle.tw_decl.proofs.searching.first_left.Given as goal

abbrev pub invariant-loop-leaf : goal.invariant-loop-leaf
invariant-loop-leaf l = first_left (drop l.leaf-index l.leaves) ≡ first_left l.leaves
