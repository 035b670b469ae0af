use Rattle.std.proofs.Common.{◌≡◌, drop, map}
use Rattle.lf.specs.Depth.{depth_limit}
use Rattle.lf_unification.specs.Lists.{followed}
use Rattle.lf_unification.specs.Offering.{spine_equations}
use Rattle.tw_metas.specs.View.{equation_of}
use Rattle.tw_terms.specs.OpenView.{open_args_of, open_spine_of}
use Rattle.tw_open.specs.Deep.{KindTakesDeep}
use Rattle.tw_open.specs.Indices.{IndicesFit, wanted_of}
use Rattle.tw_open.specs.View.{open_kind_of}
use Rattle.tw_open.proofs.indices.index_equations.Given as goal

-- the equations so far, and those of what is left; where what is left comes out deep, the whole does
abbrev pub invariant-loop-place : goal.invariant-loop-place
invariant-loop-place l = record {
  fits : IndicesFit l.locals (open_kind_of l.rest) (open_args_of (drop l.place l.left.args.items));
  so_far : followed (map equation_of l.fn.found.items) (wanted_of l.wanted (spine_equations l.locals (open_kind_of l.fn.kind) (open_spine_of l.left) (open_spine_of l.right)))
      ≡ followed (map equation_of l.found.items) (wanted_of l.wanted (spine_equations l.locals (open_kind_of l.rest) (open_args_of (drop l.place l.left.args.items)) (open_args_of (drop l.place l.right.args.items))));
  deep : KindTakesDeep depth_limit (open_kind_of l.rest) (open_args_of (drop l.place l.left.args.items)) → KindTakesDeep depth_limit (open_kind_of l.fn.kind) (open_spine_of l.left);
}
