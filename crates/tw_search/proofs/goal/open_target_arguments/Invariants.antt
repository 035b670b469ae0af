use Rattle.std.proofs.Common.{◌≡◌}
use Rattle.lf.specs.Variables.{target_arguments}
use Rattle.tw_terms.specs.OpenView.{open_type_of}
use Rattle.tw_search.proofs.goal.open_target_arguments.Given as goal

-- the arguments of the target of the rest are those of the whole
abbrev pub invariant-loop-rest : goal.invariant-loop-rest
invariant-loop-rest l = target_arguments (open_type_of l.rest) ≡ target_arguments (open_type_of l.ty)
