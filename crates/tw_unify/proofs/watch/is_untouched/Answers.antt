use Rattle.std.proofs.Common.{◌<◌, ◌^◌, [], ◌∷◌, length, length-append, inl, inr, refl, ap, ◌∙◌, subst, arith}
use Rattle.std.specs.Bool.{OnFalse}
use Rattle.lf.specs.Subordination.{Member}
use Rattle.tw_metas.specs.View.{equation_of}
use Rattle.tw_putting.specs.Stores.{bindings_of, types_of}
use Rattle.tw_unify.specs.Reaching.{marking_of, StandsInType, StandsInValue}
use Rattle.tw_unify.specs.Watching.{IsEarly, diary_of}
use Rattle.tw_unify.proofs.Moving.{nil_of}
use Rattle.tw_unify.proofs.Reaching.{less_work, none_marked, nothing_in, two_end, two_start, two_step}
use Rattle.tw_unify.proofs.watch.is_untouched.Goals as goal

pub loop-next-init : goal.loop-next-init
loop-next-init c =
    let s = c.args.store.now.now in
    let e = equation_of c.args.equation.now in
    let w = c.new-walk.result in
    two_start (types_of s) (bindings_of s) (IsEarly (diary_of c.args.watch.now) c.args.since) e.left e.right (marking_of w) (marking_of c.term.new.self) (marking_of c.term-2.new.self)
    (none_marked (marking_of w) (nothing_in w.marks c.new-walk.ensures.marks)) (λ k h. subst (Member k) c.new-walk.ensures.due h)
    c.in_ok-term.ensures.spread c.in_ok-term.ensures.met c.in_ok-term-2.ensures.spread c.in_ok-term-2.ensures.met

pub returns : goal.returns
returns c =
    let s = c.args.store.now.now in
    let e = equation_of c.args.equation.now in
    let r = two_end (types_of s) (bindings_of s) (IsEarly (diary_of c.args.watch.now) c.args.since) e.left e.right (marking_of c.loop-next.walk) c.loop-next.invariant (nil_of c.loop-next.walk.due.items (omega (arith, c.in_default.ensures.cases))) in
    λ k h. elim h [ inl a ↦ r.0 k a | inr a ↦ r.1 k a ]

pub loop-next-preserved : goal.loop-next-preserved
loop-next-preserved c =
    let s = c.args.store.now.now in
    let e = equation_of c.args.equation.now in
    let k = c.in-Some.next in
    let early : IsEarly (diary_of c.args.watch.now) c.args.since k = subst (λ b. OnFalse b (IsEarly (diary_of c.args.watch.now) c.args.since k)) c.if-is_late.false c.is_late.ensures in
    two_step (types_of s) (bindings_of s) (IsEarly (diary_of c.args.watch.now) c.args.since) e.left e.right (marking_of c.loop-next.walk) (marking_of (record { marks = c.loop-next.walk.marks; due = c.pop.new.self })) (marking_of c.type_of.new.self) (marking_of c.value_of.new.self) k
    refl c.in-Some.ensures.items c.loop-next.invariant early
    c.in_ok-type_of.ensures.spread c.in_ok-type_of.ensures.met c.in_ok-value_of.ensures.spread c.in_ok-value_of.ensures.met

pub loop-next-smaller : goal.loop-next-smaller
loop-next-smaller c =
    let s = c.args.store.now.now in
    let w = marking_of c.loop-next.walk in
    let w' = marking_of (record { marks = c.loop-next.walk.marks; due = c.pop.new.self }) in
    less_work (StandsInType (types_of s) c.in-Some.next) (StandsInValue (bindings_of s) c.in-Some.next) w w' (marking_of c.type_of.new.self) (marking_of c.value_of.new.self) refl
    (ap length c.in-Some.ensures.items ∙ length-append c.pop.new.self.items (c.in-Some.next ∷ [])) c.in_ok-type_of.ensures.spread c.in_ok-value_of.ensures.spread
    (subst (λ n. n < 2 ^ 63) c.len-count.ensures.len c.len-count.ensures.small)
