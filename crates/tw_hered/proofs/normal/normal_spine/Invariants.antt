use Rattle.std.proofs.Common.{◌≡◌, ◌≤◌, map, take}
use Rattle.lf.specs.Depth.{spine_depth}
use Rattle.lf_closures.specs.Environments.{value_in}
use Rattle.tw_terms.specs.View.{term_of, args_of}
use Rattle.tw_hered.specs.View.{environment_of}
use Rattle.tw_hered.proofs.normal.normal_spine.Given as goal

-- the arguments so far
abbrev pub invariant-loop-arg : goal.invariant-loop-arg
invariant-loop-arg l = record {
  values : map term_of l.args.items ≡ map (λ t. value_in (environment_of l.environment) (term_of t)) (take l.arg-index l.arg-items);
  shallow : spine_depth (args_of l.args.items) ≤ l.levels;
}
