use Rattle.std.proofs.Common.{◌≡◌}
use Rattle.lf.specs.Variables.{target_arguments}
use Rattle.tw_terms.specs.View.{type_of}
use Rattle.tw_search.proofs.clash.clashes.Given as goal

-- the target of the rest is that of the whole
abbrev pub invariant-loop-rest : goal.invariant-loop-rest
invariant-loop-rest l = target_arguments (type_of l.rest) ≡ target_arguments (type_of l.ty)
