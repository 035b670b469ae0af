use Rattle.std.proofs.Common.{length}
use Rattle.tw_terms.specs.View.{term_of}
use Rattle.tw_hered.proofs.Whole.{Same}
use Rattle.tw_hered.proofs.waiting.put_back.Given as goal

-- what waits makes the same of the term so far
abbrev pub invariant-loop-last : goal.invariant-loop-last
invariant-loop-last l = Same l.waiting.items (term_of l.term) l.fn.waiting.items (term_of l.fn.made)

abbrev pub decreases-loop-last : goal.decreases-loop-last
decreases-loop-last l = length l.waiting.items
