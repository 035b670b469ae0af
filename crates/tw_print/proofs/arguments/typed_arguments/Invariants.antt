use Rattle.std.proofs.Common.{◌≡◌, ◌++◌, map, reverse, vec_len}
use Rattle.lf.specs.Entries.{signature_of}
use Rattle.tw_terms.specs.View.{args_of, type_of}
use Rattle.tw_print.specs.Arguments as spec
use Rattle.tw_print.specs.ArgumentView.{argument_of}
use Rattle.tw_print.specs.SceneView.{scene_in}
use Rattle.tw_print.specs.Showable.{Takes}
use Rattle.tw_print.proofs.arguments.typed_arguments.Given as goal

abbrev pub invariant-loop-term : goal.invariant-loop-term
invariant-loop-term l = record {
  so_far : map argument_of l.arguments.items ++ spec.arguments (type_of l.left) (args_of (reverse l.rest.items)) ≡ spec.arguments (type_of l.fn.head) (args_of l.fn.args.items);
  takes : Takes (signature_of (scene_in l.scene).entries) l.context (args_of (reverse l.rest.items)) (type_of l.left);
}

abbrev pub decreases-loop-term : goal.decreases-loop-term
decreases-loop-term l = vec_len l.rest
