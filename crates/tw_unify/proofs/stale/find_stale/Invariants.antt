use Rattle.tw_putting.specs.Stores.{bindings_of, types_of}
use Rattle.tw_terms.specs.OpenView.{open_term_of}
use Rattle.tw_unify.specs.Moving.{IsFresh}
use Rattle.tw_unify.specs.Reaching.{marking_of}
use Rattle.tw_unify.proofs.Reaching.{IsSearchOfTwo, work_left}
use Rattle.tw_unify.proofs.stale.find_stale.Given as goal

abbrev pub invariant-loop-next : goal.invariant-loop-next
invariant-loop-next l = IsSearchOfTwo (types_of l.store.now) (bindings_of l.store.now) (IsFresh l.store.now) (open_term_of l.left) (open_term_of l.right) (marking_of l.walk)

abbrev pub decreases-loop-next : goal.decreases-loop-next
decreases-loop-next l = work_left (marking_of l.walk)
