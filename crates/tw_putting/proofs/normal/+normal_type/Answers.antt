use Rattle.std.proofs.Common.{rules, ◌≡◌, ◌<◌, ap, ◌∙◌, arith}
use Rattle.lf.specs.Syntax.{pi, atom}
use Rattle.lf.specs.Depth.{type_depth}
use Rattle.tw_terms.specs.OpenView.{open_type_of, open_spine_of}
use Rattle.tw_hered.specs.declared.fault.HeredFault.TheVariants.{TooDeep}
use Rattle.tw_putting.specs.Values.{put_type_value}
use Rattle.tw_putting.specs.View.{environment_of}
use Rattle.tw_putting.proofs.Environments.{environments}
use Rattle.tw_putting.proofs.Arguments.{same_fault}
use Rattle.tw_putting.proofs.Frames.{range_walk}
use Rattle.tw_putting.proofs.Walks.{atom_deep, atom_put_by, domain_deep, range_deep, range_put_by, type_depth_positive}
use Rattle.tw_putting.proofs.normal.+normal_type.Goals as goal

pub returns-then-levels-eq0-clause-too_deep : goal.returns-then-levels-eq0-clause-too_deep
returns-then-levels-eq0-clause-too_deep t c =
    let d : 0 < type_depth (put_type_value c.args.store.now.now c.args.binders (environment_of c.args.environment.now) (open_type_of c.args.ty.now)) = type_depth_positive (put_type_value c.args.store.now.now c.args.binders (environment_of c.args.environment.now) (open_type_of c.args.ty.now)) in
    λ e. omega (arith, d)

pub returns-in-Err-clause-too_deep : goal.returns-in-Err-clause-too_deep
returns-in-Err-clause-too_deep t c =
    let e : open_type_of c.args.ty.now ≡ pi (open_type_of c.deref.result.now) (open_type_of c.in-Pi.range.value) = grind (arith, environments) in
    λ f. domain_deep c.args.store.now.now c.args.levels c.args.binders (environment_of c.args.environment.now) (open_type_of c.args.ty.now) (open_type_of c.deref.result.now) (open_type_of c.in-Pi.range.value) e (c.in-Err.ensures.too_deep f)

pub normal_type-requires-in-Pi : goal.normal_type-requires-in-Pi
normal_type-requires-in-Pi t c =
    let e : open_type_of c.args.ty.now ≡ pi (open_type_of c.in-Pi.domain.value) (open_type_of c.deref-in-Pi.result.now) = grind (arith, environments) in
    (search rules, range_walk c.args.store.now.now c.args.binders c.in_ok-more-in-Pi.more (environment_of c.args.environment.now) (environment_of c.in_ok-inside-in-Pi.inside.now) (open_type_of c.args.ty.now) (open_type_of c.in-Pi.domain.value) (open_type_of c.deref-in-Pi.result.now) e c.in_ok-inside-in-Pi.ensures c.in_ok-more-in-Pi.ensures c.requires)

pub returns-in_ok-pi-in-Ok-normal_type-clause-ok : goal.returns-in_ok-pi-in-Ok-normal_type-clause-ok
returns-in_ok-pi-in-Ok-normal_type-clause-ok t c =
    let e : open_type_of c.args.ty.now ≡ pi (open_type_of c.deref.result.now) (open_type_of c.deref-in-Pi.result.now) = grind (arith, environments) in
    c.in_ok-pi-in-Ok-normal_type.ensures ∙ range_put_by c.args.store.now.now c.args.binders c.in_ok-more-in-Pi.more (environment_of c.args.environment.now) (environment_of c.in_ok-inside-in-Pi.inside.now) (open_type_of c.args.ty.now) (open_type_of c.deref.result.now) (open_type_of c.deref-in-Pi.result.now) (open_type_of c.in-Ok.domain) (open_type_of c.in-Ok-normal_type.range) e c.in_ok-inside-in-Pi.ensures c.in_ok-more-in-Pi.ensures c.in-Ok.ensures.ok c.in-Ok-normal_type.ensures.ok

pub returns-in-Err-normal_type-clause-too_deep : goal.returns-in-Err-normal_type-clause-too_deep
returns-in-Err-normal_type-clause-too_deep t c =
    let e : open_type_of c.args.ty.now ≡ pi (open_type_of c.in-Pi.domain.value) (open_type_of c.deref-in-Pi.result.now) = grind (arith, environments) in
    λ f. range_deep c.args.store.now.now c.args.levels c.args.binders c.in_ok-more-in-Pi.more (environment_of c.args.environment.now) (environment_of c.in_ok-inside-in-Pi.inside.now) (open_type_of c.args.ty.now) (open_type_of c.in-Pi.domain.value) (open_type_of c.deref-in-Pi.result.now) e c.in_ok-inside-in-Pi.ensures c.in_ok-more-in-Pi.ensures (c.in-Err-normal_type.ensures.too_deep f)

pub returns-in-Ok-normal_spine-clause-ok : goal.returns-in-Ok-normal_spine-clause-ok
returns-in-Ok-normal_spine-clause-ok t c =
    let e : open_type_of c.args.ty.now ≡ atom c.in-Atom.family.0 (open_spine_of c.in-Atom.spine) = grind (arith, environments) in
    let r = ap (atom c.in-Atom.family.0) c.in-Ok-normal_spine.ensures.ok ∙ atom_put_by c.args.store.now.now c.args.binders (environment_of c.args.environment.now) (open_type_of c.args.ty.now) c.in-Atom.family.0 (open_spine_of c.in-Atom.spine) e in
    grind (arith, environments, r)

pub returns-in-Err-normal_spine-clause-too_deep : goal.returns-in-Err-normal_spine-clause-too_deep
returns-in-Err-normal_spine-clause-too_deep t c =
    let e : open_type_of c.args.ty.now ≡ atom c.in-Atom.family.0 (open_spine_of c.in-Atom.spine) = grind (arith, environments) in
    λ f. atom_deep c.args.store.now.now c.args.levels c.args.binders (environment_of c.args.environment.now) (open_type_of c.args.ty.now) c.in-Atom.family.0 (open_spine_of c.in-Atom.spine) e (c.in-Err-normal_spine.ensures.too_deep (same_fault c.in-Err-normal_spine.fault TooDeep f))
