use Rattle.std.proofs.Common.{rules, ◌≡◌, ◌<◌, sym, ap, ap₂, ◌∙◌, arith}
use Rattle.lf.specs.Syntax.{pi}
use Rattle.lf.specs.Depth.{type_depth}
use Rattle.lf_closures.specs.Environments.{type_value_in}
use Rattle.lf_closures.proofs.Steps.{range_fits, range_value, range_deep, type_depth_positive}
use Rattle.tw_terms.specs.View.{type_of}
use Rattle.tw_hered.specs.View.{environment_of}
use Rattle.tw_hered.proofs.Environments.{environments}
use Rattle.tw_hered.proofs.normal.+normal_type.Goals as goal

pub returns-then-levels-eq0-clause-too_deep : goal.returns-then-levels-eq0-clause-too_deep
returns-then-levels-eq0-clause-too_deep t c =
    let d : 0 < type_depth (type_value_in (environment_of c.args.environment.now) (type_of c.args.ty.now)) = type_depth_positive (type_value_in (environment_of c.args.environment.now) (type_of c.args.ty.now)) in
    λ e. omega (arith, d)

pub normal_type-requires-in-Pi : goal.normal_type-requires-in-Pi
normal_type-requires-in-Pi t c =
    let e : type_of c.args.ty.now ≡ pi (type_of c.in-Pi.domain.value) (type_of c.deref-in-Pi.result.now) = grind (arith, environments) in
    (search rules, range_fits (environment_of c.args.environment.now) (environment_of c.in_ok-inside-in-Pi.inside.now) (type_of c.args.ty.now) (type_of c.in-Pi.domain.value) (type_of c.deref-in-Pi.result.now) e c.in_ok-inside-in-Pi.ensures c.requires)

pub returns-in_ok-pi-in-Ok-normal_type-clause-ok : goal.returns-in_ok-pi-in-Ok-normal_type-clause-ok
returns-in_ok-pi-in-Ok-normal_type-clause-ok t c =
    let e : type_of c.args.ty.now ≡ pi (type_of c.deref.result.now) (type_of c.deref-in-Pi.result.now) = grind (arith, environments) in
    c.in_ok-pi-in-Ok-normal_type.ensures ∙ ap₂ pi c.in-Ok.ensures.ok (c.in-Ok-normal_type.ensures.ok ∙ range_value (environment_of c.args.environment.now) (environment_of c.in_ok-inside-in-Pi.inside.now) (type_of c.deref-in-Pi.result.now) c.in_ok-inside-in-Pi.ensures) ∙ sym (ap (type_value_in (environment_of c.args.environment.now)) e)

pub returns-in-Err-normal_type-clause-too_deep : goal.returns-in-Err-normal_type-clause-too_deep
returns-in-Err-normal_type-clause-too_deep t c =
    let e : type_of c.args.ty.now ≡ pi (type_of c.in-Pi.domain.value) (type_of c.deref-in-Pi.result.now) = grind (arith, environments) in
    λ f. range_deep c.args.levels (environment_of c.args.environment.now) (environment_of c.in_ok-inside-in-Pi.inside.now) (type_of c.args.ty.now) (type_of c.in-Pi.domain.value) (type_of c.deref-in-Pi.result.now) e c.in_ok-inside-in-Pi.ensures (c.in-Err-normal_type.ensures.too_deep f)
