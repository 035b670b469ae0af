use Rattle.std.proofs.Common.{◌≡◌}
use Rattle.std.specs.Prelude.{drop}
use Rattle.tw_decl.specs.Operators.{all_take}
use Rattle.tw_decl.proofs.operators.all_take.Given as goal

abbrev pub invariant-loop-x : goal.invariant-loop-x
invariant-loop-x l = all_take l.signature l.operands (drop l.x-index l.names) ≡ all_take l.signature l.operands l.names
