use Rattle.std.proofs.Common.{drop, map}
use Rattle.lf.specs.Entries.{signature_of}
use Rattle.tw_terms.specs.View.{skeleton_of}
use Rattle.tw_elaborate.specs.Fits.{Stands}
use Rattle.tw_elaborate.specs.Fresh.{Keeps}
use Rattle.tw_elaborate.specs.View.{made, numbers_of}
use Rattle.tw_elaborate.proofs.Freeing.{FreesBefore}
use Rattle.tw_elaborate.proofs.frees.new_frees.Given as goal

-- the free variables so far
abbrev pub invariant-loop-skeleton : goal.invariant-loop-skeleton
invariant-loop-skeleton l = record {
  stands : Stands (signature_of l.signature) (made l.state) l.state.locals;
  keeps : Keeps l.fn.state l.state;
  so_far : FreesBefore l.signature (map skeleton_of l.skeletons) (made l.fn.state) (map skeleton_of (drop l.skeleton-index l.skeletons)) (made l.state) (numbers_of l.numbers.items);
}
