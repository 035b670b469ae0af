use Rattle.std.proofs.Common.{drop, map}
use Rattle.lf.specs.SkeletonTyping.{SpineSkeleton}
use Rattle.tw_terms.specs.OpenView.{open_args_of}
use Rattle.tw_terms.specs.View.{skeleton_of}
use Rattle.tests_substitution.specs.Kept.{heads_of}
use Rattle.tests_substitution.proofs.typing.+typed.Given as goal

abbrev pub invariant-spine_has-loop-arg : goal.invariant-spine_has-loop-arg
invariant-spine_has-loop-arg l =
    SpineSkeleton (heads_of l.signature l.store.now) (map skeleton_of l.variables) (open_args_of (drop l.arg-index l.arg-items)) (skeleton_of l.rest) (skeleton_of l.made) → SpineSkeleton (heads_of l.signature l.store.now) (map skeleton_of l.variables) (open_args_of l.arg-items) (skeleton_of l.taken) (skeleton_of l.made)
