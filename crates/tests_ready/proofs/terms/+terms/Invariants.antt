use Rattle.std.proofs.Common.{◌+◌, ◌*◌, drop}
use Rattle.lf.specs.Depth.{depth, spine_depth}
use Rattle.lf.specs.Entries.{signature_of}
use Rattle.tw_terms.specs.OpenView.{open_args_of, open_spine_of, open_term_of, open_type_of}
use Rattle.tw_putting.specs.Stores.{types_of}
use Rattle.tests_ready.specs.Checked.{HasSkeletons}
use Rattle.tests_ready.proofs.TypedTerms.{Continues}
use Rattle.tests_ready.proofs.terms.+terms.Given as goal

abbrev pub decreases-has_type : goal.decreases-has_type
decreases-has_type l = 2 * depth (open_term_of l.term.now)

abbrev pub decreases-takes : goal.decreases-takes
decreases-takes l = 2 * spine_depth (open_spine_of l.spine.now) + 1

-- what the arguments so far leave
abbrev pub invariant-takes-loop-arg : goal.invariant-takes-loop-arg
invariant-takes-loop-arg l = record {
  so_far : Continues (signature_of l.signature) (types_of l.store.now) l.limit l.context (open_spine_of l.fn.spine) (open_type_of l.fn.function) (open_args_of (drop l.arg-index l.arg-items)) (open_type_of l.rest);
  skeletons : HasSkeletons (signature_of l.signature) (types_of l.store.now) l.context (open_type_of l.rest);
}
