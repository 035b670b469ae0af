use Rattle.std.proofs.Common.{◌≡◌}
use Rattle.std.specs.Prelude.{drop}
use Rattle.tw_decl.specs.Operators.{first_undeclared}
use Rattle.tw_decl.proofs.labels.first_undeclared.Given as goal

abbrev pub invariant-loop-x : goal.invariant-loop-x
invariant-loop-x l = first_undeclared l.session (drop l.x-index l.names) ≡ first_undeclared l.session l.names
