use Rattle.std.proofs.Common.{◌≡◌, IfOk, ◌∙◌, subst, arith}
use Rattle.lf.specs.Depth.{depth_limit}
use Rattle.lf_closures.specs.Environments.{outside, value_in}
use Rattle.tw_terms.specs.View.{term_of, spine_of, args_of, skeleton_of}
use Rattle.tw_hered.specs.View.{environment_of}
use Rattle.tw_hered.proofs.Environments.{environments}
use Rattle.tw_hered.proofs.Calls.{applied_value, deep_applied_in}
use Rattle.tw_hered.proofs.Making.{none_made}
use Rattle.tw_hered.proofs.hereditary.apply_spine.Goals as goal

pub enter-requires-clause-made : goal.enter-requires-clause-made
enter-requires-clause-made c = none_made (environment_of c.in_ok-outside.outside.now) c.deref.result.now

pub returns-clause-ok : goal.returns-clause-ok
returns-clause-ok c =
    let o : environment_of c.in_ok-outside.outside.now ≡ outside = grind (arith, environments) in
    let s : spine_of c.args.spine.now ≡ args_of c.deref.result.now = grind (arith, environments) in
    let v = c.in_ok-entered.ensures.value ∙ applied_value (skeleton_of c.args.skel.now) (term_of c.args.term.now) (environment_of c.in_ok-outside.outside.now) (spine_of c.args.spine.now) (args_of c.deref.result.now) o s in
    subst (λ X. IfOk c.canonical.result (λ m. term_of m ≡ X)) v c.canonical.ensures.ok

pub returns-clause-too_deep : goal.returns-clause-too_deep
returns-clause-too_deep c =
    let o : environment_of c.in_ok-outside.outside.now ≡ outside = grind (arith, environments) in
    let s : spine_of c.args.spine.now ≡ args_of c.deref.result.now = grind (arith, environments) in
    λ f. deep_applied_in (skeleton_of c.args.skel.now) (term_of c.args.term.now) (environment_of c.in_ok-outside.outside.now) (spine_of c.args.spine.now) (args_of c.deref.result.now) o s depth_limit (value_in (environment_of c.in_ok-entered.entered.environment.now) (term_of c.in_ok-entered.entered.body.now)) c.in_ok-entered.ensures.value c.requires (c.canonical.ensures.too_deep f)
