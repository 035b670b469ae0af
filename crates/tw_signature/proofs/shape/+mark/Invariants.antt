use Rattle.std.proofs.Common.{◌≡◌, drop, length}
use Rattle.tw_terms.specs.View.{args_of}
use Rattle.tw_signature.specs.Marks.{marked}
use Rattle.lf_unification.specs.Search.{occurs_spine}
use Rattle.tw_signature.proofs.shape.+mark.Given as goal

abbrev pub invariant-mark_spine-loop-arg : goal.invariant-mark_spine-loop-arg
invariant-mark_spine-loop-arg l = record {
  so_far : marked l.depth (λ i. occurs_spine i (args_of (drop l.arg-index l.arg-items))) l.marks ≡ marked l.depth (λ i. occurs_spine i (args_of l.arg-items)) l.fn.marks;
  len : length l.marks ≡ length l.fn.marks;
}
