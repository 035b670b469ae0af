use Rattle.std.proofs.Common.{rules, ◌≡◌, ◌-◌, ◌<◌, length, refl, sym, ap, ◌∙◌, subst, arith}
use Rattle.lf.specs.Syntax.{lambda}
use Rattle.lf.specs.Depth.{depth}
use Rattle.lf_closures.specs.Environments.{move_by, value_in, applied_in}
use Rattle.lf_closures.specs.Typing.{ClosureFits}
use Rattle.lf_closures.proofs.Steps.{body_fits_by, applied_spine_fits}
use Rattle.tw_terms.specs.View.{term_of, args_of, skeleton_of}
use Rattle.tw_hered.specs.View.{environment_of, value_of_exposed, ExposedFits}
use Rattle.tw_hered.specs.Made.{AreMade}
use Rattle.tw_hered.specs.Waiting.{whole, AllFit, AllShallow, value_of_next, NextFits, NextIsShallow}
use Rattle.tw_hered.specs.declared.fault.HeredFault.TheVariants.{TooDeep}
use Rattle.tw_hered.proofs.Arguments.{argument_fits_by, same_fault}
use Rattle.tw_hered.proofs.Making.{none_made, made-push-by, made-count}
use Rattle.tw_hered.proofs.Whole.{too_many_wait, deep_inside}
use Rattle.tw_hered.proofs.normal.+normal.Goals as goal

pub normal_term-loop-init : goal.normal_term-loop-init
normal_term-loop-init t c =
    let e = c.new-waiting.ensures.items in
    let l : length c.new-waiting.result.items ≡ 0 = ap length e in
    record {
      waiting = subst AllFit (sym e) tt;
      fits = c.requires;
      value = ap (λ ws. whole ws (value_in (environment_of c.args.environment.now) (term_of c.args.term.now))) e;
      few = omega (arith, l);
      shallow = subst (AllShallow c.args.levels) (sym e) tt;
    }

pub normal_term-returns-in-Err-clause-too_deep : goal.normal_term-returns-in-Err-clause-too_deep
normal_term-returns-in-Err-clause-too_deep t c = λ f. subst (λ X. c.args.levels < depth X) c.loop.invariant.value (c.in-Err.ensures.too_deep (same_fault c.in-Err.fault TooDeep f))

pub normal_term-returns-in-Made-clause-ok : goal.normal_term-returns-in-Made-clause-ok
normal_term-returns-in-Made-clause-ok t c = sym (ap (value_of_next c.step.new.waiting.items) c.in-Made.is) ∙ c.in-Ok.ensures.value ∙ c.loop.invariant.value

pub normal_term-returns-in-Made-clause-shallow : goal.normal_term-returns-in-Made-clause-shallow
normal_term-returns-in-Made-clause-shallow t c = subst (NextIsShallow c.args.levels c.step.new.waiting.items) c.in-Made.is (c.in-Ok.ensures.shallow c.loop.invariant.few c.loop.invariant.shallow)

pub normal_term-loop-preserved : goal.normal_term-loop-preserved
normal_term-loop-preserved t c =
    let s = subst (NextIsShallow c.args.levels c.step.new.waiting.items) c.in-Going.is (c.in-Ok.ensures.shallow c.loop.invariant.few c.loop.invariant.shallow) in
    record {
      waiting = c.in-Ok.ensures.waiting;
      fits = subst NextFits c.in-Going.is c.in-Ok.ensures.fits;
      value = sym (ap (value_of_next c.step.new.waiting.items) c.in-Going.is) ∙ c.in-Ok.ensures.value ∙ c.loop.invariant.value;
      few = s.0;
      shallow = s.1;
    }

pub step-returns-then-around-levels-clause-too_deep : goal.step-returns-then-around-levels-clause-too_deep
step-returns-then-around-levels-clause-too_deep t c =
    let l : c.len-around.result ≡ length c.args.waiting.now.items = omega (arith, c.len-around.ensures, c.args.waiting.now.ok.0) in
    λ f. too_many_wait c.args.levels c.len-around.result c.args.waiting.now.items (value_in (environment_of c.args.here.environment.now) (term_of c.args.here.body.now)) c.if-around-levels.true l

pub step-returns-in-Err-clause-too_deep : goal.step-returns-in-Err-clause-too_deep
step-returns-in-Err-clause-too_deep t c =
    let l : c.len-around.result ≡ length c.args.waiting.now.items = omega (arith, c.len-around.ensures, c.args.waiting.now.ok.0) in
    let v : (applied_in (skeleton_of c.in-Applied.closure.skeleton.now) (term_of c.in-Applied.closure.term.now) (move_by c.in-Applied.closure.binders (environment_of c.in-Applied.closure.scope.now)) (args_of c.in-Applied.args.now) (environment_of c.in-Applied.scope.now)) ≡ (value_in (environment_of c.args.here.environment.now) (term_of c.args.here.body.now)) = sym (ap value_of_exposed c.in-Applied.is) ∙ c.in_ok-body.ensures.value in
    λ f. deep_inside c.args.levels c.len-around.result c.args.waiting.now.items (value_in (environment_of c.args.here.environment.now) (term_of c.args.here.body.now)) l (subst (λ X. c.args.levels - c.len-around.result < depth X) v (c.in-Err.ensures.too_deep (same_fault c.in-Err.fault TooDeep f)))

pub apply_made-loop-arg-init : goal.apply_made-loop-arg-init
apply_made-loop-arg-init t c = record {
  made = subst (λ m. AreMade (environment_of c.args.scope.now) m c.args.args.now) (sym c.in_ok-made.ensures.items) (none_made (environment_of c.args.scope.now) c.args.args.now);
  count = ap length c.in_ok-made.ensures.items;
}

pub apply_made-made_argument-requires : goal.apply_made-made_argument-requires
apply_made-made_argument-requires t c =
    let f = applied_spine_fits (skeleton_of c.args.closure.skeleton.now) (term_of c.args.closure.term.now) (move_by c.args.closure.binders (environment_of c.args.closure.scope.now)) (args_of c.args.args.now) (environment_of c.args.scope.now) c.requires in
    (search rules, argument_fits_by (environment_of c.args.scope.now) (args_of c.args.args.now) c.args.args.now c.loop-arg.arg-index c.arg-item.result refl c.arg-item.is (omega arith) f)

pub apply_made-loop-arg-preserved : goal.apply_made-loop-arg-preserved
apply_made-loop-arg-preserved t c = record {
  made = made-push-by (environment_of c.args.scope.now) c.loop-arg.made.items c.push_made.new.made.items c.in_ok-argument.argument c.args.args.now c.loop-arg.arg-index c.arg-item.result c.in_ok-push_made.ensures c.loop-arg.invariant.count (omega arith) c.arg-item.is c.in_ok-argument.ensures c.loop-arg.invariant.made;
  count = made-count c.loop-arg.made.items c.push_made.new.made.items c.in_ok-argument.argument c.loop-arg.arg-index c.in_ok-push_made.ensures c.loop-arg.invariant.count;
}

pub step-begin_body-requires-clause-fits : goal.step-begin_body-requires-clause-fits
step-begin_body-requires-clause-fits t c =
    let f : ClosureFits (environment_of c.in-Lam.outer.now) (lambda (term_of c.in-Lam.body.now)) = subst ExposedFits c.in-Lam.is c.in_ok-body.ensures.fits in
    body_fits_by (environment_of c.in-Lam.outer.now) (environment_of c.in_ok-inside-in-Lam.inside.now) (lambda (term_of c.in-Lam.body.now)) (term_of c.in-Lam.body.now) refl c.in_ok-inside-in-Lam.ensures f
