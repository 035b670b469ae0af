use Rattle.std.proofs.Common.{◌≡◌, ◌++◌}
use Rattle.std.specs.Prelude.{drop}
use Rattle.tw_decl.specs.Operators.{fix_words, spaced}
use Rattle.tw_decl.proofs.operators.fixity_line.Given as goal

abbrev pub invariant-loop-x : goal.invariant-loop-x
invariant-loop-x l = l.line.items ++ spaced (drop l.x-index l.names) ≡ fix_words l.fn.fix ++ spaced l.names
