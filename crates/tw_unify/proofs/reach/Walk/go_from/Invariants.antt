use Rattle.tw_terms.specs.OpenView.{open_term_of}
use Rattle.tw_unify.specs.Reaching.{marking_of}
use Rattle.tw_putting.specs.Stores.{bindings_of, types_of}
use Rattle.tw_unify.proofs.Reaching.{IsSearch, work_left}
use Rattle.tw_unify.proofs.reach.Walk.go_from.Given as goal

abbrev pub invariant-loop-next : goal.invariant-loop-next
invariant-loop-next l = IsSearch (types_of l.store.now) (bindings_of l.store.now) (marking_of l.fn.self) (open_term_of l.term) (marking_of l.self)

abbrev pub decreases-loop-next : goal.decreases-loop-next
decreases-loop-next l = work_left (marking_of l.self)
