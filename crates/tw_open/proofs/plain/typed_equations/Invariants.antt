use Rattle.std.proofs.Common.{◌≡◌, drop, map, reverse}
use Rattle.lf_unification.specs.Lists.{followed}
use Rattle.tw_metas.specs.View.{equation_of}
use Rattle.tw_terms.specs.OpenView.{open_args_of, open_spine_of, open_type_of}
use Rattle.tw_open.specs.Telescope.{equations_of}
use Rattle.tw_open.proofs.plain.typed_equations.Given as goal

-- the equations so far, and those of what is left
abbrev pub invariant-loop-arg : goal.invariant-loop-arg
invariant-loop-arg l = equations_of l.locals (map open_type_of l.fn.types.items) (open_spine_of l.left) (open_spine_of l.fn.right)
    ≡ followed (map equation_of l.found.items) (equations_of l.locals (map open_type_of (reverse l.types.items)) (open_args_of (drop l.arg-index l.arg-items)) (open_args_of (reverse l.others.items)))
