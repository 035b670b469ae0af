use Rattle.std.proofs.Common.{◌≡◌, ◌-◌, ◌∷◌, length, ap, ◌∙◌, subst, IfOk, arith}
use Rattle.std.proofs.lemmas.List.{nil_from_length}
use Rattle.lf_closures.specs.Environments.{value_in}
use Rattle.lf_closures.specs.Typing.{SpineClosureFits}
use Rattle.lf_closures.proofs.Steps.{first_fits, rest_fits}
use Rattle.tw_terms.specs.View.{term_of, args_of}
use Rattle.tw_hered.specs.View.{environment_of}
use Rattle.tw_hered.specs.Waiting.{whole, value_of_next}
use Rattle.tw_hered.specs.declared.waiting.Waiting.TheVariants.{Argument}
use Rattle.tw_hered.proofs.Whole.{more-fit, more-value, more-shallow, first-value, begun-shallow, only-head, only-head-shallow}
use Rattle.tw_hered.proofs.waiting.begin_arguments.Goals as goal

pub returns-in_ok-push-in-Some-clause-value : goal.returns-in_ok-push-in-Some-clause-value
returns-in_ok-push-in-Some-clause-value c =
    let w = Argument c.args.head c.in_ok-with_capacity-in-Some.field-0 c.in-Some.rest c.args.environment in
    more-value c.args.waiting.now.items c.push.new.self.items w c.in_ok-push-in-Some.ensures.items (value_in (environment_of c.args.environment.now) (term_of c.in-Some.first.now)) ∙ ap (whole c.args.waiting.now.items) (first-value c.args.head c.in_ok-with_capacity-in-Some.field-0 c.args.args.now c.in-Some.first.now c.in-Some.rest c.args.environment c.in_ok-with_capacity-in-Some.ensures.items c.in-Some.ensures.cases.0)

pub returns-in_ok-push-in-Some-clause-waiting : goal.returns-in_ok-push-in-Some-clause-waiting
returns-in_ok-push-in-Some-clause-waiting c =
    let w = Argument c.args.head c.in_ok-with_capacity-in-Some.field-0 c.in-Some.rest c.args.environment in
    let f : SpineClosureFits (environment_of c.args.environment.now) (args_of (c.in-Some.first.now ∷ c.in-Some.rest.now)) = subst (λ x. SpineClosureFits (environment_of c.args.environment.now) (args_of x)) c.in-Some.ensures.cases.0 c.requires.fits in
    more-fit c.args.waiting.now.items c.push.new.self.items w c.in_ok-push-in-Some.ensures.items c.requires.waiting (rest_fits (environment_of c.args.environment.now) (term_of c.in-Some.first.now) (args_of c.in-Some.rest.now) f)

pub returns-in_ok-push-in-Some-clause-fits : goal.returns-in_ok-push-in-Some-clause-fits
returns-in_ok-push-in-Some-clause-fits c =
    let f : SpineClosureFits (environment_of c.args.environment.now) (args_of (c.in-Some.first.now ∷ c.in-Some.rest.now)) = subst (λ x. SpineClosureFits (environment_of c.args.environment.now) (args_of x)) c.in-Some.ensures.cases.0 c.requires.fits in
    first_fits (environment_of c.args.environment.now) (term_of c.in-Some.first.now) (args_of c.in-Some.rest.now) f

pub returns-in_ok-push-in-Some-clause-shallow : goal.returns-in_ok-push-in-Some-clause-shallow
returns-in_ok-push-in-Some-clause-shallow c = λ n l a.
    more-shallow c.args.waiting.now.items c.push.new.self.items (Argument c.args.head c.in_ok-with_capacity-in-Some.field-0 c.in-Some.rest c.args.environment) c.in_ok-push-in-Some.ensures.items n l a (begun-shallow c.in_ok-with_capacity-in-Some.field-0 (n - length c.args.waiting.now.items - 1) c.in_ok-with_capacity-in-Some.ensures.items)

pub returns-in-None-clause-value : goal.returns-in-None-clause-value
returns-in-None-clause-value c =
    let r = only-head c.args.head c.new-args.result (environment_of c.args.environment.now) c.args.args.now c.new-args.ensures.items (nil_from_length c.args.args.now c.in-None.ensures.cases) in
    subst (λ X. IfOk c.put_back.result (λ r. value_of_next c.put_back.new.waiting.items r ≡ whole c.args.waiting.now.items X)) r c.put_back.ensures.value

pub returns-in-None-clause-shallow : goal.returns-in-None-clause-shallow
returns-in-None-clause-shallow c =
    grind (arith, only-head-shallow c.args.waiting.now.items c.args.head c.new-args.result)
