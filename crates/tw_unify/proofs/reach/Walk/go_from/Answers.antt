use Rattle.std.proofs.Common.{◌≡◌, ◌<◌, ◌^◌, [], ◌∷◌, length, length-append, refl, sym, ap, ◌∙◌, subst, arith}
use Rattle.tw_terms.specs.OpenView.{open_term_of}
use Rattle.tw_putting.specs.Stores.{bindings_of, types_of}
use Rattle.tw_unify.specs.Reaching.{IsClosed, marking_of, StandsInType, StandsInValue}
use Rattle.tw_unify.proofs.Moving.{nil_of}
use Rattle.tw_unify.proofs.Reaching.{less_work, search_closed, search_start, search_step}
use Rattle.tw_unify.proofs.reach.Walk.go_from.Goals as goal

pub loop-next-init : goal.loop-next-init
loop-next-init c =
    let s = c.args.store.now.now in
    search_start (types_of s) (bindings_of s) (marking_of c.args.self.now) (open_term_of c.args.term.now) (marking_of c.term.new.self) c.requires.closed c.in_ok-term.ensures.spread c.in_ok-term.ensures.met

pub loop-next-preserved : goal.loop-next-preserved
loop-next-preserved c =
    let s = c.args.store.now.now in
    search_step (types_of s) (bindings_of s) (marking_of c.args.self.now) (open_term_of c.args.term.now) (marking_of c.loop-next.self) (marking_of (record { marks = c.loop-next.self.marks; due = c.pop.new.self })) (marking_of c.type_of.new.self) (marking_of c.value_of.new.self) c.in-Some.next
    refl c.in-Some.ensures.items c.loop-next.invariant
    c.in_ok-type_of.ensures.spread c.in_ok-type_of.ensures.met c.in_ok-value_of.ensures.spread c.in_ok-value_of.ensures.met

pub returns-clause-closed : goal.returns-clause-closed
returns-clause-closed c =
    let s = c.args.store.now.now in
    let w = marking_of c.loop-next.self in
    let none : w.due ≡ [] = nil_of c.loop-next.self.due.items (omega (arith, c.in_default.ensures.cases)) in
    let popped : c.pop.new.self.items ≡ [] = nil_of c.pop.new.self.items (omega (arith, c.in_default.ensures.cases)) in
    subst (λ ds. IsClosed (types_of s) (bindings_of s) (record { marks = w.marks; count = w.count; due = ds })) (none ∙ sym popped)
    (search_closed (types_of s) (bindings_of s) (marking_of c.args.self.now) (open_term_of c.args.term.now) w c.loop-next.invariant none)

pub returns-clause-met : goal.returns-clause-met
returns-clause-met c = c.loop-next.invariant.met

pub returns-clause-reached : goal.returns-clause-reached
returns-clause-reached c = c.loop-next.invariant.marked_reached

pub loop-next-smaller : goal.loop-next-smaller
loop-next-smaller c =
    let s = c.args.store.now.now in
    let w = marking_of c.loop-next.self in
    let w' = marking_of (record { marks = c.loop-next.self.marks; due = c.pop.new.self }) in
    less_work (StandsInType (types_of s) c.in-Some.next) (StandsInValue (bindings_of s) c.in-Some.next) w w' (marking_of c.type_of.new.self) (marking_of c.value_of.new.self) refl
    (ap length c.in-Some.ensures.items ∙ length-append c.pop.new.self.items (c.in-Some.next ∷ [])) c.in_ok-type_of.ensures.spread c.in_ok-value_of.ensures.spread
    (subst (λ n. n < 2 ^ 63) c.len-count.ensures.len c.len-count.ensures.small)
