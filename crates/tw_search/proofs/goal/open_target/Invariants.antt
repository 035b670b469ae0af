use Rattle.std.proofs.Common.{◌≡◌}
use Rattle.lf.specs.Variables.{target}
use Rattle.tw_terms.specs.OpenView.{open_type_of}
use Rattle.tw_search.proofs.goal.open_target.Given as goal

-- the target of the rest is that of the whole
abbrev pub invariant-loop-rest : goal.invariant-loop-rest
invariant-loop-rest l = target (open_type_of l.rest) ≡ target (open_type_of l.ty)
