use Rattle.std.proofs.Common.{◌≡◌, drop, length}
use Rattle.tw_terms.specs.View.{args_of}
use Rattle.lf_checks.specs.Strict.{strict_spine}
use Rattle.tw_signature.specs.Marks.{marked}
use Rattle.tw_mode.specs.Scopes.{bound_in, fixed_in}
use Rattle.tw_mode.proofs.strict.+strict.Given as goal

abbrev pub invariant-mark_strict_spine-loop-arg : goal.invariant-mark_strict_spine-loop-arg
invariant-mark_strict_spine-loop-arg l = record {
  so_far : marked l.scope.depth (λ i. strict_spine (bound_in l.scope) (fixed_in l.scope) i (args_of (drop l.arg-index l.arg-items))) l.marks ≡ marked l.scope.depth (λ i. strict_spine (bound_in l.scope) (fixed_in l.scope) i (args_of l.arg-items)) l.fn.marks;
  len : length l.marks ≡ length l.fn.marks;
}
