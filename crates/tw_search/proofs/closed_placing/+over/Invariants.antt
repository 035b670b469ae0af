use Rattle.std.proofs.Common.{◌≡◌, ◌+◌, ◌*◌, map, take}
use Rattle.lf.specs.Depth.{depth, spine_depth}
use Rattle.lf_search.specs.AppliedHeads.{with_applied}
use Rattle.tw_terms.specs.OpenView.{open_spine_of, open_term_of}
use Rattle.tw_terms.specs.View.{spine_of, term_of}
use Rattle.tw_search.specs.Applied.{taken_at}
use Rattle.tw_search.proofs.closed_placing.+over.Given as goal

-- the term alone gets smaller
abbrev pub decreases-closed_term_over : goal.decreases-closed_term_over
decreases-closed_term_over l = 4 * depth (term_of l.term.now) + 1

abbrev pub decreases-closed_parts_over : goal.decreases-closed_parts_over
decreases-closed_parts_over l = 4 * depth (term_of l.term.now)

abbrev pub decreases-closed_spine_over : goal.decreases-closed_spine_over
decreases-closed_spine_over l = 4 * spine_depth (spine_of l.spine.now) + 3

abbrev pub decreases-closed_arguments_over : goal.decreases-closed_arguments_over
decreases-closed_arguments_over l = 4 * spine_depth (spine_of l.spine.now) + 2

-- the arguments so far
abbrev pub invariant-closed_arguments_over-loop-arg : goal.invariant-closed_arguments_over-loop-arg
invariant-closed_arguments_over-loop-arg l = map open_term_of l.args.items ≡ map (λ t. with_applied (taken_at (open_spine_of l.arguments) l.metas l.binders) (term_of t)) (take l.arg-index l.arg-items)
