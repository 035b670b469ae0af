use Rattle.std.proofs.Common.{◌≡◌, ◌+◌, ◌*◌, map, take}
use Rattle.lf.specs.Depth.{depth, spine_depth}
use Rattle.lf_search.specs.AppliedHeads.{with_applied}
use Rattle.tw_terms.specs.OpenView.{open_spine_of, open_term_of}
use Rattle.tw_search.specs.Applied.{taken_at}
use Rattle.tw_search.proofs.placing.+over.Given as goal

-- the term alone gets smaller
abbrev pub decreases-term_over : goal.decreases-term_over
decreases-term_over l = 2 * depth (open_term_of l.term.now)

abbrev pub decreases-spine_over : goal.decreases-spine_over
decreases-spine_over l = 2 * spine_depth (open_spine_of l.spine.now) + 1

-- the arguments so far
abbrev pub invariant-spine_over-loop-arg : goal.invariant-spine_over-loop-arg
invariant-spine_over-loop-arg l = map open_term_of l.args.items ≡ map (λ t. with_applied (taken_at (open_spine_of l.arguments) l.metas l.binders) (open_term_of t)) (take l.arg-index l.arg-items)
