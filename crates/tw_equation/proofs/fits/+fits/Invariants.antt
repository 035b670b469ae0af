use Rattle.std.proofs.Common.{drop, map, ◌↔◌}
use Rattle.lf.specs.Entries.{signature_of}
use Rattle.lf.specs.Skeletons.{constant_skeletons}
use Rattle.lf.specs.SkeletonTyping.{SpineSkeleton}
use Rattle.tw_terms.specs.View.{args_of, skeleton_of}
use Rattle.tw_equation.proofs.fits.+fits.Given as goal

abbrev pub invariant-spine_has-loop-arg : goal.invariant-spine_has-loop-arg
invariant-spine_has-loop-arg l =
    SpineSkeleton (constant_skeletons (signature_of l.signature)) (map skeleton_of l.variables) (args_of (drop l.arg-index l.arg-items)) (skeleton_of l.rest) (skeleton_of l.made) ↔ SpineSkeleton (constant_skeletons (signature_of l.signature)) (map skeleton_of l.variables) (args_of l.arg-items) (skeleton_of l.taken) (skeleton_of l.made)
