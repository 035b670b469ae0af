use Rattle.std.proofs.Common.{subst}
use Rattle.std.specs.Bool.{MatchBool}
use Rattle.tw_terms.specs.OpenView.{open_term_of}
use Rattle.tw_putting.specs.Stores.{bindings_of, types_of}
use Rattle.tw_unify.specs.Reaching.{IsMarked, marking_of}
use Rattle.tw_unify.proofs.Reaching.{search_answer}
use Rattle.tw_unify.proofs.Results.{on_ok_anyway}
use Rattle.tw_unify.proofs.reach.is_reached_now.Goals as goal

pub returns-then-known-clause-closed : goal.returns-then-known-clause-closed
returns-then-known-clause-closed c = on_ok_anyway c.is_reached.result c.in_ok-go_from.ensures.closed

pub returns-then-known-clause-met : goal.returns-then-known-clause-met
returns-then-known-clause-met c = on_ok_anyway c.is_reached.result c.in_ok-go_from.ensures.met

pub returns-else-known-clause-reached : goal.returns-else-known-clause-reached
returns-else-known-clause-reached c =
    let s = c.args.store.now.now in
    let o = marking_of c.args.met.now in
    search_answer (types_of s) (bindings_of s) o (open_term_of c.args.term.now) (marking_of c.go_from.new.self) c.args.meta.0 c.is_marked.result
    (subst (λ b. MatchBool b (IsMarked o c.args.meta.0) (IsMarked o c.args.meta.0 → ⊥)) c.if-known.false c.is_marked-known.ensures) c.in_ok-go_from.ensures.closed c.in_ok-go_from.ensures.met c.in_ok-go_from.ensures.reached c.is_marked.ensures
