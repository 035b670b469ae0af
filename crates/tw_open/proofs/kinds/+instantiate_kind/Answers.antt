use Rattle.std.proofs.Common.{◌≡◌, ◌+◌, ◌<◌, ap, rules, sym, subst, arith, ◌∙◌}
use Rattle.lf.specs.Depth.{depth_limit, kind_depth, type_depth}
use Rattle.lf.specs.Substitution.{reduce, substitute_kind, substitute_type}
use Rattle.lf.specs.Syntax.{kind_pi, skeleton}
use Rattle.tw_hered.specs.declared.fault.HeredFault.TheVariants.{TooDeep}
use Rattle.tw_hered.specs.Fits.{put_at}
use Rattle.tw_terms.specs.OpenView.{open_term_of, open_type_of}
use Rattle.tw_hered.specs.Fits.{KindFits}
use Rattle.tw_open.specs.Deep.{HasDeepDomain}
use Rattle.tw_open.specs.View.{open_kind_of}
use Rattle.tw_open.proofs.Arguments.{inner_fits, put_in_kind}
use Rattle.tw_open.proofs.DeepKinds.{domain_deep, fault_of_call, first_domain_deep, later_domain_deep, range_deep}
use Rattle.tw_open.proofs.Steps.{steps}
use Rattle.tw_open.proofs.Views.{open_kind_of-Pi}
use Rattle.tw_open.proofs.kinds.+instantiate_kind.Goals as goal

pub instantiate_kind-requires : goal.instantiate_kind-requires
instantiate_kind-requires t c =
    let a = skeleton (open_type_of c.args.ty.now) in
    let N = open_term_of c.args.arg.now in
    let A = open_type_of c.in-Pi.domain.value in
    let L = open_kind_of c.in-Pi.range.value in
    let k : open_kind_of c.args.kind.now ≡ kind_pi A L = ap open_kind_of c.in-Pi.is ∙ open_kind_of-Pi c.in-Pi.domain c.in-Pi.range in
    let q : c.in_ok-inside-in-Pi.inside ≡ c.args.index + 1 = grind arith in
    let f : KindFits (put_at c.in_ok-inside-in-Pi.inside a N) L = inner_fits c.args.index c.in_ok-inside-in-Pi.inside a N (open_kind_of c.args.kind.now) L A q k c.requires in
    (first_of (search rules, grind (arith, steps)), subst (KindFits (put_at c.in_ok-inside-in-Pi.inside a N)) (sym (ap open_kind_of c.deref-in-Pi.ensures)) f)

pub returns-in_err-domain-in-Pi-clause-too_deep : goal.returns-in_err-domain-in-Pi-clause-too_deep
returns-in_err-domain-in-Pi-clause-too_deep t c = λ is.
    let σ = put_at c.args.index (skeleton (open_type_of c.args.ty.now)) (open_term_of c.args.arg.now) in
    let A = open_type_of c.in-Pi.domain.value in
    let L = open_kind_of c.in-Pi.range.value in
    let k : open_kind_of c.args.kind.now ≡ kind_pi A L = ap open_kind_of c.in-Pi.is ∙ open_kind_of-Pi c.in-Pi.domain c.in-Pi.range in
    let h = c.in_err-domain-in-Pi.ensures.too_deep (fault_of_call c.from_residual-in_err-domain-in-Pi.result c.in_err-domain-in-Pi.field-0.0 TooDeep (search rules) is) in
    domain_deep σ (open_kind_of c.args.kind.now) L A k (subst (λ x. depth_limit < type_depth (substitute_type reduce σ (open_type_of x))) c.deref.ensures h)

pub returns-in_err-range-in-Pi-clause-too_deep : goal.returns-in_err-range-in-Pi-clause-too_deep
returns-in_err-range-in-Pi-clause-too_deep t c = λ is.
    let a = skeleton (open_type_of c.args.ty.now) in
    let N = open_term_of c.args.arg.now in
    let A = open_type_of c.in-Pi.domain.value in
    let L = open_kind_of c.in-Pi.range.value in
    let k : open_kind_of c.args.kind.now ≡ kind_pi A L = ap open_kind_of c.in-Pi.is ∙ open_kind_of-Pi c.in-Pi.domain c.in-Pi.range in
    let q : c.in_ok-inside-in-Pi.inside ≡ c.args.index + 1 = grind arith in
    let h = c.in_err-range-in-Pi.ensures.too_deep (fault_of_call c.from_residual-in_err-range-in-Pi.result c.in_err-range-in-Pi.field-0.0 TooDeep (search rules) is) in
    range_deep c.args.index c.in_ok-inside-in-Pi.inside a N (open_kind_of c.args.kind.now) L A q k (subst (λ x. depth_limit < kind_depth (substitute_kind reduce (put_at c.in_ok-inside-in-Pi.inside a N) (open_kind_of x))) c.deref-in-Pi.ensures h)

pub returns-in_err-domain-in-Pi-clause-deep_domain : goal.returns-in_err-domain-in-Pi-clause-deep_domain
returns-in_err-domain-in-Pi-clause-deep_domain t c = λ is.
    let σ = put_at c.args.index (skeleton (open_type_of c.args.ty.now)) (open_term_of c.args.arg.now) in
    let A = open_type_of c.in-Pi.domain.value in
    let L = open_kind_of c.in-Pi.range.value in
    let k : open_kind_of c.args.kind.now ≡ kind_pi A L = ap open_kind_of c.in-Pi.is ∙ open_kind_of-Pi c.in-Pi.domain c.in-Pi.range in
    let h = c.in_err-domain-in-Pi.ensures.too_deep (fault_of_call c.from_residual-in_err-domain-in-Pi.result c.in_err-domain-in-Pi.field-0.0 TooDeep (search rules) is) in
    first_domain_deep σ (open_kind_of c.args.kind.now) L A k (subst (λ x. depth_limit < type_depth (substitute_type reduce σ (open_type_of x))) c.deref.ensures h)

pub returns-in_err-range-in-Pi-clause-deep_domain : goal.returns-in_err-range-in-Pi-clause-deep_domain
returns-in_err-range-in-Pi-clause-deep_domain t c = λ is.
    let a = skeleton (open_type_of c.args.ty.now) in
    let N = open_term_of c.args.arg.now in
    let A = open_type_of c.in-Pi.domain.value in
    let L = open_kind_of c.in-Pi.range.value in
    let k : open_kind_of c.args.kind.now ≡ kind_pi A L = ap open_kind_of c.in-Pi.is ∙ open_kind_of-Pi c.in-Pi.domain c.in-Pi.range in
    let q : c.in_ok-inside-in-Pi.inside ≡ c.args.index + 1 = grind arith in
    let h = c.in_err-range-in-Pi.ensures.deep_domain (fault_of_call c.from_residual-in_err-range-in-Pi.result c.in_err-range-in-Pi.field-0.0 TooDeep (search rules) is) in
    later_domain_deep c.args.index c.in_ok-inside-in-Pi.inside a N (open_kind_of c.args.kind.now) L A q k (subst (λ x. HasDeepDomain depth_limit (substitute_kind reduce (put_at c.in_ok-inside-in-Pi.inside a N) (open_kind_of x))) c.deref-in-Pi.ensures h)

pub returns-in_ok-kind_pi-in-Pi-clause-ok : goal.returns-in_ok-kind_pi-in-Pi-clause-ok
returns-in_ok-kind_pi-in-Pi-clause-ok t c =
    let a = skeleton (open_type_of c.args.ty.now) in
    let N = open_term_of c.args.arg.now in
    let A = open_type_of c.deref.result.now in
    let L = open_kind_of c.deref-in-Pi.result.now in
    let k : open_kind_of c.args.kind.now ≡ kind_pi A L = grind (arith, steps) in
    let q : c.in_ok-inside-in-Pi.inside ≡ c.args.index + 1 = grind arith in
    c.in_ok-kind_pi-in-Pi.ensures ∙ put_in_kind c.args.index c.in_ok-inside-in-Pi.inside a N (open_kind_of c.args.kind.now) L A (open_type_of c.in_ok-domain-in-Pi.domain) (open_kind_of c.in_ok-range-in-Pi.range) q k c.in_ok-domain-in-Pi.ensures.ok c.in_ok-range-in-Pi.ensures.ok
