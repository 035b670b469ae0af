use Rattle.std.proofs.Common.{◌≡◌, ◌*◌, ◌+◌, ◌≤◌}
use Rattle.lf.specs.Depth.{spine_depth}
use Rattle.lf.specs.Eta.{append, arity, eta_arguments}
use Rattle.tw_terms.specs.View.{args_of, skeleton_of}
use Rattle.tw_hered.proofs.expand.+expand.Given as goal

abbrev pub decreases-expand_head : goal.decreases-expand_head
decreases-expand_head l = 2 * l.levels

abbrev pub decreases-expand_arguments : goal.decreases-expand_arguments
decreases-expand_arguments l = 2 * l.levels + 1

abbrev pub invariant-expand_arguments-loop-rest : goal.invariant-expand_arguments-loop-rest
invariant-expand_arguments-loop-rest l = record {
  newest : l.newest ≡ arity (skeleton_of l.rest);
  args : append (args_of l.args.items) (eta_arguments (skeleton_of l.rest)) ≡ eta_arguments (skeleton_of l.skeleton);
  shallow : spine_depth (args_of l.args.items) ≤ l.levels;
  part : spine_depth (eta_arguments (skeleton_of l.rest)) ≤ spine_depth (eta_arguments (skeleton_of l.skeleton));
}
