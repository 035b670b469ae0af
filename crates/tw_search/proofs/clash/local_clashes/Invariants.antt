use Rattle.std.proofs.Common.{◌≡◌, ◌+◌}
use Rattle.lf.specs.Entries.{quantifiers}
use Rattle.lf.specs.Variables.{target_arguments}
use Rattle.tw_terms.specs.OpenView.{open_type_of}
use Rattle.tw_search.proofs.clash.local_clashes.Given as goal

-- the target of the rest is that of the whole, which has as many quantifiers as were passed and as are left
abbrev pub invariant-loop-rest : goal.invariant-loop-rest
invariant-loop-rest l = (target_arguments (open_type_of l.rest) ≡ target_arguments (open_type_of l.ty)) × (quantifiers (open_type_of l.rest) + l.binders ≡ quantifiers (open_type_of l.ty))
