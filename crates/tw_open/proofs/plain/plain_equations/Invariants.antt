use Rattle.std.proofs.Common.{◌≡◌, drop, map, reverse}
use Rattle.lf_unification.specs.Lists.{followed}
use Rattle.lf_unification.specs.Offering.{spine_equations}
use Rattle.tw_metas.specs.View.{equation_of}
use Rattle.tw_terms.specs.OpenView.{open_args_of, open_spine_of}
use Rattle.tw_terms.specs.View.{kind_of}
use Rattle.tw_open.specs.Plain.{IsPlain}
use Rattle.tw_open.proofs.plain.plain_equations.Given as goal

-- the equations so far, and those of what is left
abbrev pub invariant-loop-arg : goal.invariant-loop-arg
invariant-loop-arg l = record {
  plain : IsPlain (kind_of l.rest);
  so_far : spine_equations l.locals (kind_of l.fn.kind) (open_spine_of l.left) (open_spine_of l.fn.right)
      ≡ followed (map equation_of l.found.items) (spine_equations l.locals (kind_of l.rest) (open_args_of (drop l.arg-index l.arg-items)) (open_args_of (reverse l.others.items)));
}
