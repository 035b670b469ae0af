use Rattle.tw_metas.specs.View.{equation_of}
use Rattle.tw_putting.specs.Stores.{bindings_of, types_of}
use Rattle.tw_unify.specs.Reaching.{marking_of}
use Rattle.tw_unify.specs.Watching.{IsEarly, diary_of}
use Rattle.tw_unify.proofs.Reaching.{IsSearchOfTwo, work_left}
use Rattle.tw_unify.proofs.watch.is_untouched.Given as goal

abbrev pub invariant-loop-next : goal.invariant-loop-next
invariant-loop-next l = IsSearchOfTwo (types_of l.store.now) (bindings_of l.store.now) (IsEarly (diary_of l.watch) l.since) (equation_of l.equation).left (equation_of l.equation).right (marking_of l.walk)

abbrev pub decreases-loop-next : goal.decreases-loop-next
decreases-loop-next l = work_left (marking_of l.walk)
