use Rattle.std.proofs.Common.{◌≡◌, arith}
use Rattle.lf.specs.Syntax.{root}
use Rattle.tw_terms.specs.OpenView.{open_head_of, open_spine_of, open_term_of}
use Rattle.tw_terms.proofs.OpenArgs.{open_types}
use Rattle.tw_terms.proofs.OpenViews.{open_term_of-Root}
use Rattle.tw_unify.specs.Showing.{NeedsSpine, NeedsTerm}
use Rattle.tw_unify.proofs.Ordering.{argument_grown, argument_next, head_stays, root_done, root_grown}
use Rattle.tw_unify.proofs.numbering.+number.Goals as goal

pub number_term-returns-in_ok-spine-in-Root-clause-numbered : goal.number_term-returns-in_ok-spine-in-Root-clause-numbered
number_term-returns-in_ok-spine-in-Root-clause-numbered t c =
    let h = open_head_of c.in-Root.head in
    let k = open_head_of c.in_ok-head-in-Root.head in
    let S = open_spine_of c.in-Root.spine in
    let ys = c.number_head.new.order.items in
    let zs = c.number_spine.new.order.items in
    let e : open_term_of c.args.term.now ≡ root h S = grind (arith, open_types) in
    root_done zs (open_term_of c.args.term.now) _ h k S (open_spine_of c.in_ok-spine-in-Root.spine) e (open_term_of-Root _ _)
    (head_stays (NeedsSpine S) ys zs c.in_ok-spine-in-Root.ensures.grown h k c.in_ok-head-in-Root.ensures.numbered) c.in_ok-spine-in-Root.ensures.numbered

pub number_term-returns-in_ok-spine-in-Root-clause-grown : goal.number_term-returns-in_ok-spine-in-Root-clause-grown
number_term-returns-in_ok-spine-in-Root-clause-grown t c =
    let h = open_head_of c.in-Root.head in
    let S = open_spine_of c.in-Root.spine in
    let e : open_term_of c.args.term.now ≡ root h S = grind (arith, open_types) in
    root_grown c.args.order.now.items c.number_head.new.order.items c.number_spine.new.order.items (open_term_of c.args.term.now) h S e c.in_ok-head-in-Root.ensures.grown c.in_ok-spine-in-Root.ensures.grown

pub number_spine-loop-arg-preserved : goal.number_spine-loop-arg-preserved
number_spine-loop-arg-preserved t c =
    let items = c.deref-arg-items.result.now in
    let x = c.arg-item.result in
    record {
      numbered = argument_next (NeedsTerm (open_term_of x)) c.loop-arg.order.items c.number_term.new.order.items items c.loop-arg.arg-index x c.loop-arg.args.items c.push.new.self.items c.in_ok-number_term.field-0 c.in_ok-number_term.ensures.grown c.loop-arg-test.true c.arg-item.is c.in_ok-push.ensures.items c.loop-arg.invariant.numbered c.in_ok-number_term.ensures.numbered;
      grown = argument_grown c.args.order.now.items c.loop-arg.order.items c.number_term.new.order.items items c.loop-arg.arg-index x c.loop-arg-test.true c.arg-item.is c.loop-arg.invariant.grown c.in_ok-number_term.ensures.grown;
    }
