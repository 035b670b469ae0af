use Rattle.std.proofs.Common.{◌≡◌, ◌++◌, drop, map}
use Rattle.tw_terms.specs.View.{skeleton_of}
use Rattle.tests_substitution.proofs.skeletons.push_all.Given as goal

abbrev pub invariant-loop-skeleton : goal.invariant-loop-skeleton
invariant-loop-skeleton l = map skeleton_of l.all.items ++ map skeleton_of (drop l.skeleton-index l.skeletons) ≡ map skeleton_of l.fn.all.items ++ map skeleton_of l.skeletons
