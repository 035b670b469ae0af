use Rattle.std.proofs.Common.{◌≡◌, ◌+◌, drop, inl, inr, sym, subst, arith}
use Rattle.std.proofs.lemmas.Result.{on_ok_weaker}
use Rattle.lf.specs.Syntax.{metavariable, root}
use Rattle.lf_unification.specs.Reach.{Mentions, SpineMentions}
use Rattle.tw_terms.specs.OpenView.{open_args_of, open_spine_of, open_term_of}
use Rattle.tw_terms.proofs.OpenArgs.{open_spines}
use Rattle.tw_unify.specs.Reaching.{marking_of}
use Rattle.tw_unify.proofs.Reaching.{SpineWalk, spread_then, walk_step}
use Rattle.tw_unify.proofs.Spines.{open_args_at}
use Rattle.tw_unify.proofs.reach.Walk.+walk.Goals as goal

pub spine-loop-arg-preserved : goal.spine-loop-arg-preserved
spine-loop-arg-preserved t c =
    let items = c.deref-arg-items.result.now in
    walk_step (marking_of c.args.self.now) (marking_of c.loop-arg.self) (marking_of c.term.new.self) (open_args_of items) (open_args_of (drop (c.loop-arg.arg-index + 1) items)) (open_term_of c.arg-item.result)
    (subst (SpineWalk (marking_of c.args.self.now) (marking_of c.loop-arg.self) (open_args_of items)) (open_args_at items c.loop-arg.arg-index c.arg-item.result (omega arith) c.arg-item.is) c.loop-arg.invariant)
    c.in_ok-term.ensures.spread c.in_ok-term.ensures.met

pub term-returns-in_ok-meet-in-Root-Meta-default-clause-spread : goal.term-returns-in_ok-meet-in-Root-Meta-default-clause-spread
term-returns-in_ok-meet-in-Root-Meta-default-clause-spread t c =
    let S = open_spine_of c.in-Root-Meta-default.spine in
    let m = c.in-Root-Meta-default.meta.0 in
    let e : open_term_of c.args.term.now ≡ root (metavariable m) S = grind (arith, open_spines) in
    on_ok_weaker c.spine.result
    (spread_then (λ k. k ≡ m) (λ k. SpineMentions k S) (λ k. Mentions k (open_term_of c.args.term.now)) (marking_of c.args.self.now) (marking_of c.meet.new.self) (marking_of c.spine.new.self)
    (λ k h. subst (Mentions k) (sym e) (inl h)) (λ k h. subst (Mentions k) (sym e) (inr h)) c.in_ok-meet-in-Root-Meta-default.ensures.spread)
    c.spine.ensures.spread
