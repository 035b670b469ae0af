use Rattle.std.proofs.Common.{◌≡◌, drop, length}
use Rattle.tw_terms.specs.View.{args_of}
use Rattle.lf_checks.specs.Modes.{occurs_at}
use Rattle.tw_signature.specs.Marks.{marked}
use Rattle.tw_mode.proofs.mentions.mark_at.Given as goal

abbrev pub invariant-loop-place : goal.invariant-loop-place
invariant-loop-place l = record {
  so_far : marked l.depth (λ i. occurs_at (drop l.place l.places) i (args_of (drop l.place l.spine.args.items))) l.marks ≡ marked l.depth (λ i. occurs_at l.places i (args_of l.spine.args.items)) l.fn.marks;
  len : length l.marks ≡ length l.fn.marks;
}
