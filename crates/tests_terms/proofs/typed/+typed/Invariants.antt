use Rattle.std.proofs.Common.{drop, map}
use Rattle.lf.specs.SkeletonTyping.{SpineSkeleton}
use Rattle.tw_terms.specs.View.{args_of, skeleton_of}
use Rattle.tw_hered.specs.Known.{heads_of}
use Rattle.tests_terms.proofs.typed.+typed.Given as goal

abbrev pub invariant-spine_has-loop-arg : goal.invariant-spine_has-loop-arg
invariant-spine_has-loop-arg l =
    SpineSkeleton (heads_of (map (λ c. skeleton_of c.now) l.constants)) (map (λ v. skeleton_of v.now) l.variables) (args_of (drop l.arg-index l.arg-items)) (skeleton_of l.rest) (skeleton_of l.made) → SpineSkeleton (heads_of (map (λ c. skeleton_of c.now) l.constants)) (map (λ v. skeleton_of v.now) l.variables) (args_of l.arg-items) (skeleton_of l.taken) (skeleton_of l.made)
