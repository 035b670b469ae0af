use Rattle.std.proofs.Common.{◌≡◌, ◌++◌, ◌+◌, ◌*◌, drop}
use Rattle.lf.specs.Depth.{depth, spine_depth}
use Rattle.lf.specs.Entries.{signature_of}
use Rattle.tw_terms.specs.View.{term_of, spine_of, args_of, type_of}
use Rattle.tw_kernel.proofs.Spines.{Progress}
use Rattle.tw_kernel.proofs.terms.+check.Given as goal

abbrev pub decreases-has_type : goal.decreases-has_type
decreases-has_type l = 3 * depth (term_of l.term.now)

abbrev pub decreases-spine_type : goal.decreases-spine_type
decreases-spine_type l = 3 * spine_depth (spine_of l.spine.now) + 2

abbrev pub decreases-take_argument : goal.decreases-take_argument
decreases-take_argument l = 3 * depth (term_of l.arg.now) + 1

abbrev pub invariant-spine_type-loop-arg : goal.invariant-spine_type-loop-arg
invariant-spine_type-loop-arg l = record {
  kept : l.inner ≡ l.fn.inner;
  so_far : Progress (signature_of l.signature) (l.fn.inner ++ l.outer) (args_of l.arg-items) (type_of l.fn.function) (args_of (drop l.arg-index l.arg-items)) (type_of l.ty);
}
