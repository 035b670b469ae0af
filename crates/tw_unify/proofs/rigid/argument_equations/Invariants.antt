use Rattle.std.proofs.Common.{◌≡◌, map, reverse, vec_len}
use Rattle.lf_unification.specs.Lists.{followed}
use Rattle.lf_unification.specs.Offering.{argument_equations}
use Rattle.tw_metas.specs.View.{equation_of}
use Rattle.tw_terms.specs.OpenView.{open_args_of, open_spine_of, open_type_of}
use Rattle.tw_unify.specs.Rigid.{equations_of}
use Rattle.tw_unify.proofs.rigid.argument_equations.Given as goal

-- those that were found, and those of what is left
abbrev pub invariant-loop-ty : goal.invariant-loop-ty
invariant-loop-ty l = argument_equations l.context (open_type_of l.fn.ty) (open_spine_of l.fn.left) (open_spine_of l.fn.right) ≡ followed (map equation_of l.found.items) (equations_of l.context (map open_type_of (reverse l.types.items)) (open_args_of (reverse l.lefts.items)) (open_args_of (reverse l.rights.items)))

abbrev pub decreases-loop-ty : goal.decreases-loop-ty
decreases-loop-ty l = vec_len l.types
