use Rattle.tw_terms.specs.OpenView.{open_term_of}
use Rattle.tw_putting.specs.Stores.{bindings_of, types_of}
use Rattle.tw_unify.specs.Reaching.{marking_of}
use Rattle.tw_unify.proofs.Reaching.{none_marked, nothing_closed, nothing_in, search_answer}
use Rattle.tw_unify.proofs.reach.is_reached.Goals as goal

pub go_from-requires-clause-closed : goal.go_from-requires-clause-closed
go_from-requires-clause-closed c =
    let s = c.args.store.now.now in
    let w = c.new-walk.result in
    nothing_closed (types_of s) (bindings_of s) (marking_of w) (none_marked (marking_of w) (nothing_in w.marks c.new-walk.ensures.marks)) c.new-walk.ensures.due

pub returns : goal.returns
returns c =
    let s = c.args.store.now.now in
    let w = c.new-walk.result in
    search_answer (types_of s) (bindings_of s) (marking_of w) (open_term_of c.args.term.now) (marking_of c.go_from.new.self) c.args.meta.0 c.is_marked.result
    (none_marked (marking_of w) (nothing_in w.marks c.new-walk.ensures.marks) c.args.meta.0) c.in_ok-go_from.ensures.closed c.in_ok-go_from.ensures.met c.in_ok-go_from.ensures.reached c.is_marked.ensures
