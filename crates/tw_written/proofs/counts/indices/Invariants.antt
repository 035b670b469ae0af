use Rattle.std.proofs.Common.{◌≡◌, ◌+◌}
use Rattle.lf_elaboration.specs.Sites.{indices}
use Rattle.tw_terms.specs.View.{skeleton_of}
use Rattle.tw_written.proofs.Waiting.{all_indices, parts}
use Rattle.tw_written.proofs.counts.indices.Given as goal

-- those so far, and those of what waits
abbrev pub invariant-loop-next : goal.invariant-loop-next
invariant-loop-next l = l.count + all_indices l.signature l.waiting.items ≡ indices l.signature (skeleton_of l.skeleton)

abbrev pub decreases-loop-next : goal.decreases-loop-next
decreases-loop-next l = parts l.waiting.items
