use Rattle.std.proofs.Common.{◌≡◌, IfOk, ◌<◌, subst, arith}
use Rattle.lf.specs.Depth.{depth, depth_limit}
use Rattle.lf.specs.Syntax.{skeleton}
use Rattle.lf_closures.specs.Environments.{outside}
use Rattle.tw_terms.specs.OpenView.{open_args_of, open_spine_of, open_term_of, open_type_of}
use Rattle.tw_putting.specs.View.{environment_of}
use Rattle.tw_putting.proofs.Environments.{environments}
use Rattle.tw_putting.proofs.HeadValues.{under_takes, under_value, under_walk}
use Rattle.tw_putting.proofs.unfolding.apply_under.Goals as goal

pub enter-requires : goal.enter-requires
enter-requires c =
    let o : environment_of c.in_ok-outside.outside.now ≡ outside = grind (arith, environments) in
    let s : open_spine_of c.args.spine.now ≡ open_args_of c.deref.result.now = grind (arith, environments) in
    under_takes c.args.binders (skeleton (open_type_of c.args.ty.now)) (open_term_of c.args.value.now) (environment_of c.in_ok-outside.outside.now) (open_spine_of c.args.spine.now) (open_args_of c.deref.result.now) o s c.requires

pub normal_term-requires : goal.normal_term-requires
normal_term-requires c =
    let o : environment_of c.in_ok-outside.outside.now ≡ outside = grind (arith, environments) in
    let s : open_spine_of c.args.spine.now ≡ open_args_of c.deref.result.now = grind (arith, environments) in
    under_walk c.args.binders (skeleton (open_type_of c.args.ty.now)) (open_term_of c.args.value.now) (environment_of c.in_ok-outside.outside.now) (open_spine_of c.args.spine.now) (open_args_of c.deref.result.now) o s c.requires c.new-empty.result c.new-empty.ensures (open_term_of c.in_ok-entered.entered.body.now) (environment_of c.in_ok-entered.entered.environment.now) c.in_ok-entered.ensures

pub returns-clause-ok : goal.returns-clause-ok
returns-clause-ok c =
    let o : environment_of c.in_ok-outside.outside.now ≡ outside = grind (arith, environments) in
    let s : open_spine_of c.args.spine.now ≡ open_args_of c.deref.result.now = grind (arith, environments) in
    subst (λ X. IfOk c.normal_term.result (λ m. open_term_of m ≡ X)) (under_value c.args.binders (skeleton (open_type_of c.args.ty.now)) (open_term_of c.args.value.now) (environment_of c.in_ok-outside.outside.now) (open_spine_of c.args.spine.now) (open_args_of c.deref.result.now) o s c.requires c.new-empty.result c.new-empty.ensures (open_term_of c.in_ok-entered.entered.body.now) (environment_of c.in_ok-entered.entered.environment.now) c.in_ok-entered.ensures) c.normal_term.ensures.ok

pub returns-clause-too_deep : goal.returns-clause-too_deep
returns-clause-too_deep c =
    let o : environment_of c.in_ok-outside.outside.now ≡ outside = grind (arith, environments) in
    let s : open_spine_of c.args.spine.now ≡ open_args_of c.deref.result.now = grind (arith, environments) in
    λ f. subst (λ X. depth_limit < depth X) (under_value c.args.binders (skeleton (open_type_of c.args.ty.now)) (open_term_of c.args.value.now) (environment_of c.in_ok-outside.outside.now) (open_spine_of c.args.spine.now) (open_args_of c.deref.result.now) o s c.requires c.new-empty.result c.new-empty.ensures (open_term_of c.in_ok-entered.entered.body.now) (environment_of c.in_ok-entered.entered.environment.now) c.in_ok-entered.ensures) (c.normal_term.ensures.too_deep f)
