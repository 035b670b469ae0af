use Rattle.std.proofs.Common.{◌≡◌}
use Rattle.lf.specs.Variables.{target_arguments}
use Rattle.lf_unification.specs.Offering.{pi_over}
use Rattle.tw_terms.specs.OpenView.{open_type_of}
use Rattle.tw_search.proofs.goal.opened.Given as goal

-- the quantifiers so far, over the rest, whose target has the arguments of that of the whole
abbrev pub invariant-loop-rest : goal.invariant-loop-rest
invariant-loop-rest l = (pi_over l.locals (open_type_of l.rest) ≡ open_type_of l.ty) × (target_arguments (open_type_of l.rest) ≡ target_arguments (open_type_of l.ty))
