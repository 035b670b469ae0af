use Rattle.std.proofs.Common.{◌≡◌, map, arith, ap, ◌∙◌}
use Rattle.lf.specs.Syntax.{lambda, root}
use Rattle.tw_terms.specs.OpenView.{open_args_of, open_head_of, open_spine_of, open_term_of}
use Rattle.tw_terms.specs.View.{args_of, head_of, spine_of, term_of}
use Rattle.tw_terms.specs.declared.canonical.Spine.{roll-Spine}
use Rattle.tw_abstract.specs.Generalizing.{generalized_spine}
use Rattle.tw_abstract.specs.Positions.{index}
use Rattle.tw_abstract.proofs.Steps.{none_at_lambda, none_at_head, none_at_spine, next_argument, all_arguments, some_at_lambda, some_at_root}
use Rattle.tw_abstract.proofs.Walks.{walks}
use Rattle.tw_abstract.proofs.generalizing.+generalizing.Goals as goal

pub generalized_term-returns-in-None : goal.generalized_term-returns-in-None
generalized_term-returns-in-None t c =
    let e : open_term_of c.args.term.now ≡ lambda (open_term_of c.deref.result.now) = grind (arith, walks) in
    none_at_lambda (index c.args.positions.now) term_of c.args.binders _ _ _ _ e c.in_ok-inside-in-Lam.ensures c.in_ok-body-in-Lam.ensures c.in-None.is

pub generalized_term-returns-in_ok-new-in-Some : goal.generalized_term-returns-in_ok-new-in-Some
generalized_term-returns-in_ok-new-in-Some t c =
    let e : open_term_of c.args.term.now ≡ lambda (open_term_of c.deref.result.now) = grind (arith, walks) in
    some_at_lambda (index c.args.positions.now) term_of c.args.binders _ _ _ _ _ c.in-Some.body e c.in_ok-inside-in-Lam.ensures c.in_ok-body-in-Lam.ensures c.in-Some.is (grind (arith, walks))

pub generalized_term-returns-in_default : goal.generalized_term-returns-in_default
generalized_term-returns-in_default t c =
    let e : open_term_of c.args.term.now ≡ root (open_head_of c.in-Root.head) (open_spine_of c.in-Root.spine) = grind (arith, walks) in
    none_at_head (index c.args.positions.now) head_of c.args.binders _ _ _ _ e c.in_ok-head-in-Root.ensures c.in_default.is

pub generalized_term-returns-in-Some-3 : goal.generalized_term-returns-in-Some-3
generalized_term-returns-in-Some-3 t c =
    let e : open_term_of c.args.term.now ≡ root (open_head_of c.in-Root.head) (open_spine_of c.in-Root.spine) = grind (arith, walks) in
    some_at_root (index c.args.positions.now) head_of spine_of c.args.binders _ _ _ _ _ c.in-Some-2.head _ c.in-Some-3.spine e c.in_ok-head-in-Root.ensures c.in-Some-2.is c.in_ok-spine-in-Root.ensures c.in-Some-3.is (grind (arith, walks))

pub generalized_term-returns-in-None-2 : goal.generalized_term-returns-in-None-2
generalized_term-returns-in-None-2 t c =
    let e : open_term_of c.args.term.now ≡ root (open_head_of c.in-Root.head) (open_spine_of c.in-Root.spine) = grind (arith, walks) in
    none_at_spine (index c.args.positions.now) head_of spine_of c.args.binders _ _ _ _ c.in-Some-2.head _ e c.in_ok-head-in-Root.ensures c.in-Some-2.is c.in_ok-spine-in-Root.ensures c.in-None-2.is

pub generalized_spine-loop-arg-preserved : goal.generalized_spine-loop-arg-preserved
generalized_spine-loop-arg-preserved t c =
    next_argument (index c.args.positions.now) c.args.binders c.loop-arg.arg-index c.deref-arg-items.result.now c.arg-item.result c.loop-arg.args.items c.push.new.self.items _ c.in-Some.arg _ c.loop-arg-test.true c.arg-item.is c.loop-arg.invariant c.in_ok-arg.ensures c.in-Some.is c.in_ok-push-in-Some.ensures.items

pub generalized_spine-returns : goal.generalized_spine-returns
generalized_spine-returns t c =
    let e : open_spine_of c.args.spine.now ≡ open_args_of c.deref-arg-items.result.now = grind (arith, walks) in
    let x : spine_of (roll-Spine record { args = c.loop-arg.args }) ≡ args_of c.loop-arg.args.items = grind (arith, walks) in
    all_arguments (index c.args.positions.now) c.args.binders c.loop-arg.arg-index c.deref-arg-items.result.now _ (map term_of c.loop-arg.args.items) _ c.loop-arg-test.false (ap (generalized_spine (index c.args.positions.now) c.args.binders) e ∙ c.loop-arg.invariant) x
