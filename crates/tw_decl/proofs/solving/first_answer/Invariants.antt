use Rattle.std.proofs.Common.{◌≡◌, drop}
use Rattle.tw_decl.specs.Searching.{first_answer}
use Rattle.tw_decl.proofs.solving.first_answer.Given as goal

abbrev pub invariant-loop-leaf : goal.invariant-loop-leaf
invariant-loop-leaf l = first_answer (drop l.leaf-index l.leaves) ≡ first_answer l.leaves
