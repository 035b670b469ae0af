use Rattle.std.proofs.Common.{◌≡◌, drop, length}
use Rattle.tw_terms.specs.View.{args_of}
use Rattle.lf_checks.specs.Strict.{strict_at}
use Rattle.tw_signature.specs.Marks.{marked}
use Rattle.tw_mode.specs.Scopes.{bound_in, fixed_in}
use Rattle.tw_mode.proofs.places.mark_strict_at.Given as goal

abbrev pub invariant-loop-place : goal.invariant-loop-place
invariant-loop-place l = record {
  so_far : marked l.scope.depth (λ i. strict_at (drop l.place l.places) (bound_in l.scope) (fixed_in l.scope) i (args_of (drop l.place l.spine.args.items))) l.marks ≡ marked l.scope.depth (λ i. strict_at l.places (bound_in l.scope) (fixed_in l.scope) i (args_of l.spine.args.items)) l.fn.marks;
  len : length l.marks ≡ length l.fn.marks;
}
