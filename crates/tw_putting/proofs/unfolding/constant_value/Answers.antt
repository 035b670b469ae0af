use Rattle.std.proofs.Common.{◌≡◌, Some, sym, ap, ◌∙◌, arith}
use Rattle.std.specs.Option.{option_map}
use Rattle.lf.specs.Syntax.{constant, metavariable, nil, root}
use Rattle.tw_metas.specs.State.{value_of}
use Rattle.tw_terms.specs.OpenView.{open_spine_of, open_term_of}
use Rattle.tw_putting.proofs.Environments.{environments}
use Rattle.tw_putting.proofs.HeadValues.{leads_further, leads_to_constant}
use Rattle.tw_putting.proofs.unfolding.constant_value.Goals as goal

pub returns-in-Root-Const-default : goal.returns-in-Root-Const-default
returns-in-Root-Const-default c =
    let s = c.args.store.now.now in
    let S = open_spine_of c.in-Root-Const-default.field-1 in
    let e : open_term_of c.in-Some.value.now ≡ root (constant c.in-Root-Const-default.constant.0) S = grind (arith, environments) in
    let v : value_of s c.loop.here.0 ≡ Some (open_term_of c.in-Some.value.now) = sym c.value.ensures ∙ ap (λ o. option_map (λ x. open_term_of x.now) o) c.in-Some.is in
    leads_to_constant s c.args.meta.0 c.loop.here.0 c.in-Root-Const-default.constant.0 S c.loop.invariant (v ∙ ap Some e)

pub loop-preserved : goal.loop-preserved
loop-preserved c =
    let s = c.args.store.now.now in
    let e : open_term_of c.in-Some.value.now ≡ root (metavariable c.in-Root-Meta-default.next.0) nil = grind (arith, environments) in
    let v : value_of s c.loop.here.0 ≡ Some (open_term_of c.in-Some.value.now) = sym c.value.ensures ∙ ap (λ o. option_map (λ x. open_term_of x.now) o) c.in-Some.is in
    leads_further s c.args.meta.0 c.loop.here.0 c.in-Root-Meta-default.next.0 c.loop.invariant (v ∙ ap Some e)
