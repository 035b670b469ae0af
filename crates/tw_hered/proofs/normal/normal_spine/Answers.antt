use Rattle.std.proofs.Common.{◌≡◌, map, sym, ap, ◌∙◌, arith}
use Rattle.lf_closures.specs.Environments.{value_in, spine_value_in}
use Rattle.tw_terms.specs.View.{term_of, spine_of, args_of, spine_from}
use Rattle.tw_hered.specs.View.{environment_of}
use Rattle.tw_hered.specs.declared.fault.HeredFault.TheVariants.{TooDeep}
use Rattle.tw_hered.proofs.Environments.{environments}
use Rattle.tw_hered.proofs.Arguments.{argument_fits_by, argument_deep_by, arguments_value, same_fault}
use Rattle.tw_hered.proofs.normal.normal_spine.Goals as goal

pub normal_term-requires : goal.normal_term-requires
normal_term-requires c =
    let e : spine_of c.args.spine.now ≡ args_of c.deref-arg-items.result.now = grind (arith, environments) in
    argument_fits_by (environment_of c.args.environment.now) (spine_of c.args.spine.now) c.deref-arg-items.result.now c.loop-arg.arg-index c.arg-item.result e c.arg-item.is (omega arith) c.requires

pub returns-in-Err-clause-too_deep : goal.returns-in-Err-clause-too_deep
returns-in-Err-clause-too_deep c =
    let e : spine_of c.args.spine.now ≡ args_of c.deref-arg-items.result.now = grind (arith, environments) in
    λ f. argument_deep_by (environment_of c.args.environment.now) (spine_of c.args.spine.now) c.deref-arg-items.result.now c.loop-arg.arg-index c.args.levels c.arg-item.result e c.arg-item.is (omega arith) (c.in-Err.ensures.too_deep (same_fault c.in-Err.fault TooDeep f))

pub returns-clause-ok : goal.returns-clause-ok
returns-clause-ok c =
    let e : spine_of c.args.spine.now ≡ args_of c.deref-arg-items.result.now = grind (arith, environments) in
    let v : map term_of c.loop-arg.args.items ≡ map (λ t. value_in (environment_of c.args.environment.now) (term_of t)) c.deref-arg-items.result.now = grind (arith, environments) in
    let r : args_of c.loop-arg.args.items ≡ spine_value_in (environment_of c.args.environment.now) (spine_of c.args.spine.now) = ap spine_from v ∙ sym (arguments_value (environment_of c.args.environment.now) c.deref-arg-items.result.now) ∙ sym (ap (spine_value_in (environment_of c.args.environment.now)) e) in
    grind (arith, environments, r)
