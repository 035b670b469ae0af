use Rattle.std.proofs.Common.{◌≡◌, ◌+◌, ◌∷◌, drop, sym, ap, ◌∙◌, subst, arith}
use Rattle.lf.specs.Syntax.{lambda, app, arrow}
use Rattle.lf_closures.specs.Environments.{move_by, applied_in}
use Rattle.lf_closures.specs.Typing.{ClosureApplies}
use Rattle.lf_closures.proofs.Steps.{takes_all}
use Rattle.tw_terms.specs.View.{term_of, args_of, skeleton_of}
use Rattle.tw_hered.specs.View.{environment_of}
use Rattle.tw_hered.proofs.Environments.{environments}
use Rattle.tw_hered.specs.Made.{AreMade, first_made, with_argument}
use Rattle.tw_hered.proofs.Making.{either_taken}
use Rattle.tw_hered.proofs.head.enter.Goals as goal

pub loop-arg-init : goal.loop-arg-init
loop-arg-init c =
    let q : environment_of c.in_ok-environment.environment.now ≡ move_by c.args.closure.binders (environment_of c.args.closure.scope.now) = c.in_ok-environment.ensures in
    record {
      takes = takes_all (skeleton_of c.args.closure.skeleton.now) (term_of c.args.closure.term.now) (move_by c.args.closure.binders (environment_of c.args.closure.scope.now)) (args_of c.args.args.now) (environment_of c.args.scope.now) c.requires.applies;
      applies = subst (λ E. ClosureApplies (skeleton_of c.args.closure.skeleton.now) (term_of c.args.closure.term.now) E (args_of c.args.args.now) (environment_of c.args.scope.now)) (sym q) c.requires.applies;
      made = c.requires.made;
      value = ap (λ E. applied_in (skeleton_of c.args.closure.skeleton.now) (term_of c.args.closure.term.now) E (args_of c.args.args.now) (environment_of c.args.scope.now)) q;
    }

pub loop-arg-preserved : goal.loop-arg-preserved
loop-arg-preserved c =
    let t : skeleton_of c.loop-arg.rest.now ≡ arrow (skeleton_of c.deref.result.now) (skeleton_of c.deref-rest.result.now) = grind (arith, environments) in
    let n : term_of c.loop-arg.body.now ≡ lambda (term_of c.deref-body.result.now) = grind (arith, environments) in
    let d : drop c.loop-arg.arg-index c.args.args.now ≡ c.arg-item.result ∷ drop (c.loop-arg.arg-index + 1) c.args.args.now = grind (arith, environments) in
    let s : args_of (drop c.loop-arg.arg-index c.args.args.now) ≡ app (term_of c.arg-item.result) (args_of (drop (c.loop-arg.arg-index + 1) c.args.args.now)) = ap args_of d in
    let m : AreMade (environment_of c.args.scope.now) c.loop-arg.left.now (c.arg-item.result ∷ drop (c.loop-arg.arg-index + 1) c.args.args.now) = subst (AreMade (environment_of c.args.scope.now) c.loop-arg.left.now) d c.loop-arg.invariant.made in
    let e : environment_of c.in_ok-environment-in-Lam.environment.now ≡ with_argument (skeleton_of c.deref.result.now) (term_of c.arg-item.result) (first_made c.loop-arg.left.now) (environment_of c.args.scope.now) (environment_of c.loop-arg.environment.now) = c.in_ok-environment-in-Lam.ensures ∙ ap (λ x. with_argument (skeleton_of c.deref.result.now) (term_of c.arg-item.result) x (environment_of c.args.scope.now) (environment_of c.loop-arg.environment.now)) c.next_made.ensures.first in
    let taken = either_taken (skeleton_of c.loop-arg.rest.now) (skeleton_of c.deref.result.now) (skeleton_of c.deref-rest.result.now) (term_of c.deref-body.result.now) (term_of c.loop-arg.body.now) c.arg-item.result (first_made c.loop-arg.left.now) (environment_of c.loop-arg.environment.now) (environment_of c.in_ok-environment-in-Lam.environment.now) (args_of (drop c.loop-arg.arg-index c.args.args.now)) (args_of (drop (c.loop-arg.arg-index + 1) c.args.args.now)) (environment_of c.args.scope.now) t n s m.0 e c.loop-arg.invariant.applies in
    record {
      takes = takes_all (skeleton_of c.deref-rest.result.now) (term_of c.deref-body.result.now) (environment_of c.in_ok-environment-in-Lam.environment.now) (args_of (drop (c.loop-arg.arg-index + 1) c.args.args.now)) (environment_of c.args.scope.now) taken.applies;
      applies = taken.applies;
      made = subst (λ x. AreMade (environment_of c.args.scope.now) x (drop (c.loop-arg.arg-index + 1) c.args.args.now)) (sym c.next_made.ensures.rest) m.1;
      value = taken.value ∙ c.loop-arg.invariant.value;
    }
