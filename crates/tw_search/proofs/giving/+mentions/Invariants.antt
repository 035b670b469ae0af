use Rattle.std.proofs.Common.{◌+◌, ◌*◌, drop}
use Rattle.lf.specs.Depth.{depth, spine_depth}
use Rattle.lf.specs.Syntax.{nil}
use Rattle.lf_search.specs.AppliedHeads.{spine_with_applied}
use Rattle.lf_unification.specs.OpenTyping.{MetavariablesInSpine}
use Rattle.lf_unification.specs.Outside.{Holds}
use Rattle.tw_terms.specs.View.{args_of, spine_of, term_of}
use Rattle.tw_search.specs.Applied.{taken_at}
use Rattle.tw_search.specs.Reducing.{is_loose}
use Rattle.tw_search.proofs.giving.+mentions.Given as goal

-- the term alone gets smaller
abbrev pub decreases-mentions_loose : goal.decreases-mentions_loose
decreases-mentions_loose l = 2 * depth (term_of l.term.now)

abbrev pub decreases-all_mention_loose : goal.decreases-all_mention_loose
decreases-all_mention_loose l = 2 * spine_depth (spine_of l.spine.now) + 1

-- where what is left mentions loose ones alone, the whole does
abbrev pub invariant-all_mention_loose-loop-arg : goal.invariant-all_mention_loose-loop-arg
invariant-all_mention_loose-loop-arg l =
    MetavariablesInSpine (λ k. Holds (is_loose l.store.now l.goal.0 k)) (spine_with_applied (taken_at nil l.metas 0) (args_of (drop l.arg-index l.arg-items)))
    → MetavariablesInSpine (λ k. Holds (is_loose l.store.now l.goal.0 k)) (spine_with_applied (taken_at nil l.metas 0) (spine_of l.spine))
