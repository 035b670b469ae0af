use Rattle.std.proofs.Common.{rules, ◌≡◌, ◌<◌, map, refl, sym, ap, ◌∙◌, subst, arith}
use Rattle.lf.specs.Syntax.{lambda}
use Rattle.lf.specs.Depth.{depth}
use Rattle.tw_terms.specs.OpenView.{open_term_of, open_spine_of, open_args_of}
use Rattle.tw_terms.specs.View.{spine_from}
use Rattle.tw_hered.specs.declared.fault.HeredFault.TheVariants.{TooDeep}
use Rattle.tw_putting.specs.Frames.{WalkFits}
use Rattle.tw_putting.specs.Values.{put_value, put_spine_value}
use Rattle.tw_putting.specs.View.{environment_of, value_of_exposed, ExposedFits}
use Rattle.tw_putting.proofs.Environments.{environments}
use Rattle.tw_putting.proofs.Arguments.{argument_walk_by, argument_deep_by, arguments_put, same_fault}
use Rattle.tw_putting.proofs.Frames.{body_walk_by}
use Rattle.tw_putting.proofs.Walks.{lambda_value_by, body_deep, depth_positive}
use Rattle.tw_putting.proofs.normal.+normal.Goals as goal

pub normal_spine-normal_term-requires : goal.normal_spine-normal_term-requires
normal_spine-normal_term-requires t c =
    let e : open_spine_of c.args.spine.now ≡ open_args_of c.deref-arg-items.result.now = grind (arith, environments) in
    (search rules, argument_walk_by c.args.store.now.now c.args.binders (environment_of c.args.environment.now) (open_spine_of c.args.spine.now) c.deref-arg-items.result.now c.loop-arg.arg-index c.arg-item.result e c.arg-item.is (omega arith) c.requires)

pub normal_spine-returns-in-Err-clause-too_deep : goal.normal_spine-returns-in-Err-clause-too_deep
normal_spine-returns-in-Err-clause-too_deep t c =
    let e : open_spine_of c.args.spine.now ≡ open_args_of c.deref-arg-items.result.now = grind (arith, environments) in
    λ f. argument_deep_by c.args.store.now.now c.args.binders (environment_of c.args.environment.now) (open_spine_of c.args.spine.now) c.deref-arg-items.result.now c.loop-arg.arg-index c.args.levels c.arg-item.result e c.arg-item.is (omega arith) (c.in-Err.ensures.too_deep (same_fault c.in-Err.fault TooDeep f))

pub normal_spine-returns-clause-ok : goal.normal_spine-returns-clause-ok
normal_spine-returns-clause-ok t c =
    let e : open_spine_of c.args.spine.now ≡ open_args_of c.deref-arg-items.result.now = grind (arith, environments) in
    let v : map open_term_of c.loop-arg.args.items ≡ map (λ t. put_value c.args.store.now.now c.args.binders (environment_of c.args.environment.now) (open_term_of t)) c.deref-arg-items.result.now = grind (arith, environments) in
    let r : open_args_of c.loop-arg.args.items ≡ put_spine_value c.args.store.now.now c.args.binders (environment_of c.args.environment.now) (open_spine_of c.args.spine.now) = ap spine_from v ∙ sym (arguments_put c.args.store.now.now c.args.binders (environment_of c.args.environment.now) c.deref-arg-items.result.now) ∙ sym (ap (put_spine_value c.args.store.now.now c.args.binders (environment_of c.args.environment.now)) e) in
    grind (arith, environments, r)

pub normal_term-returns-then-levels-eq0-clause-too_deep : goal.normal_term-returns-then-levels-eq0-clause-too_deep
normal_term-returns-then-levels-eq0-clause-too_deep t c =
    let d : 0 < depth (put_value c.args.store.now.now c.args.binders (environment_of c.args.environment.now) (open_term_of c.args.term.now)) = depth_positive (put_value c.args.store.now.now c.args.binders (environment_of c.args.environment.now) (open_term_of c.args.term.now)) in
    λ e. omega (arith, d)

pub normal_term-normal_term-requires : goal.normal_term-normal_term-requires
normal_term-normal_term-requires t c =
    let f : WalkFits c.args.store.now.now c.args.binders (environment_of c.in-Lam.around.now) (lambda (open_term_of c.in-Lam.body.now)) = subst (ExposedFits c.args.store.now.now c.args.binders) c.in-Lam.is c.in_ok-body.ensures.fits in
    (search rules, body_walk_by c.args.store.now.now c.args.binders c.in_ok-more-in-Lam.more (environment_of c.in-Lam.around.now) (environment_of c.in_ok-inside-in-Lam.inside.now) (lambda (open_term_of c.in-Lam.body.now)) (open_term_of c.in-Lam.body.now) refl c.in_ok-inside-in-Lam.ensures c.in_ok-more-in-Lam.ensures f)

pub normal_term-returns-in_ok-lambda-in-Ok-clause-ok : goal.normal_term-returns-in_ok-lambda-in-Ok-clause-ok
normal_term-returns-in_ok-lambda-in-Ok-clause-ok t c =
    let v : put_value c.args.store.now.now c.args.binders (environment_of c.in-Lam.around.now) (lambda (open_term_of c.in-Lam.body.now)) ≡ put_value c.args.store.now.now c.args.binders (environment_of c.args.environment.now) (open_term_of c.args.term.now) = sym (ap (value_of_exposed c.args.store.now.now c.args.binders) c.in-Lam.is) ∙ c.in_ok-body.ensures.value in
    c.in_ok-lambda-in-Ok.ensures ∙ lambda_value_by c.args.store.now.now c.args.binders c.in_ok-more-in-Lam.more (environment_of c.in-Lam.around.now) (environment_of c.in_ok-inside-in-Lam.inside.now) (lambda (open_term_of c.in-Lam.body.now)) (open_term_of c.in-Lam.body.now) (open_term_of c.in-Ok.body) refl c.in_ok-inside-in-Lam.ensures c.in_ok-more-in-Lam.ensures c.in-Ok.ensures.ok ∙ v

pub normal_term-returns-in-Err-clause-too_deep : goal.normal_term-returns-in-Err-clause-too_deep
normal_term-returns-in-Err-clause-too_deep t c =
    let v : put_value c.args.store.now.now c.args.binders (environment_of c.in-Lam.around.now) (lambda (open_term_of c.in-Lam.body.now)) ≡ put_value c.args.store.now.now c.args.binders (environment_of c.args.environment.now) (open_term_of c.args.term.now) = sym (ap (value_of_exposed c.args.store.now.now c.args.binders) c.in-Lam.is) ∙ c.in_ok-body.ensures.value in
    λ f. subst (λ X. c.args.levels < depth X) v (body_deep c.args.store.now.now c.args.levels c.args.binders c.in_ok-more-in-Lam.more (environment_of c.in-Lam.around.now) (environment_of c.in_ok-inside-in-Lam.inside.now) (lambda (open_term_of c.in-Lam.body.now)) (open_term_of c.in-Lam.body.now) refl c.in_ok-inside-in-Lam.ensures c.in_ok-more-in-Lam.ensures (c.in-Err.ensures.too_deep f))
