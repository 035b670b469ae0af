use Rattle.std.proofs.Common.{◌≡◌, Err, ap, ap₂, sym, ◌∙◌, subst, arith, rules}
use Rattle.lf.specs.AtOnce.{lift_by}
use Rattle.lf.specs.Deep.{DeepTypeSubstitution, DeepKindSubstitution}
use Rattle.lf.specs.Depth.{depth_limit}
use Rattle.lf.specs.Substitution.{single, substitute_type, substitute_kind, reduce}
use Rattle.lf.specs.Syntax.{kind_pi}
use Rattle.tw_terms.specs.View.{term_of, type_of, kind_of, skeleton_of}
use Rattle.tw_terms.proofs.Views.{kind_of-Pi}
use Rattle.tw_hered.specs.Fits.{KindFits}
use Rattle.tw_kernel.proofs.Rules.{kernel}
use Rattle.tw_kernel.proofs.KindSpines.{rest_fits, deep_in_kind_domain, deep_in_kind_rest}
use Rattle.tw_kernel.proofs.kinds.+instantiate_kind.Goals as goal

pub returns-in_err-domain-in-Pi-clause-too_deep : goal.returns-in_err-domain-in-Pi-clause-too_deep
returns-in_err-domain-in-Pi-clause-too_deep t c = λ is.
    let σ = lift_by c.args.index (single (skeleton_of c.args.shape.now) (term_of c.args.arg.now)) in
    let k = ap kind_of c.in-Pi.is ∙ kind_of-Pi c.in-Pi.domain c.in-Pi.rest in
    let e : c.from_residual-in_err-domain-in-Pi.result ≡ Err c.in_err-domain-in-Pi.field-0.0 = search rules in
    subst (DeepKindSubstitution depth_limit σ) (sym k)
    (deep_in_kind_domain depth_limit σ (type_of c.in-Pi.domain.value) (kind_of c.in-Pi.rest.value) (subst (KindFits σ) k c.requires)
    (subst (λ x. DeepTypeSubstitution depth_limit σ (type_of x)) c.deref.ensures (c.in_err-domain-in-Pi.ensures.too_deep (cc (e, is)))))

pub instantiate_kind-requires : goal.instantiate_kind-requires
instantiate_kind-requires t c =
    let σ = lift_by c.args.index (single (skeleton_of c.args.shape.now) (term_of c.args.arg.now)) in
    let k = ap kind_of c.in-Pi.is ∙ kind_of-Pi c.in-Pi.domain c.in-Pi.rest in (
      grind (arith, kernel),
      rw (c.in_ok-inside-in-Pi.ensures, c.deref-in-Pi.ensures) (rest_fits σ (type_of c.in-Pi.domain.value) (kind_of c.in-Pi.rest.value) (subst (KindFits σ) k c.requires)),
    )

pub returns-in_err-rest-in-Pi-clause-too_deep : goal.returns-in_err-rest-in-Pi-clause-too_deep
returns-in_err-rest-in-Pi-clause-too_deep t c = λ is.
    let put = single (skeleton_of c.args.shape.now) (term_of c.args.arg.now) in
    let σ = lift_by c.args.index put in
    let k = ap kind_of c.in-Pi.is ∙ kind_of-Pi c.in-Pi.domain c.in-Pi.rest in
    let e : c.from_residual-in_err-rest-in-Pi.result ≡ Err c.in_err-rest-in-Pi.field-0.0 = search rules in
    subst (DeepKindSubstitution depth_limit σ) (sym k)
    (deep_in_kind_rest depth_limit σ (type_of c.in-Pi.domain.value) (kind_of c.in-Pi.rest.value) (subst (KindFits σ) k c.requires)
    (subst (λ n. DeepKindSubstitution depth_limit (lift_by n put) (kind_of c.in-Pi.rest.value)) c.in_ok-inside-in-Pi.ensures
    (subst (λ x. DeepKindSubstitution depth_limit (lift_by c.in_ok-inside-in-Pi.inside put) (kind_of x)) c.deref-in-Pi.ensures (c.in_err-rest-in-Pi.ensures.too_deep (sym e ∙ is)))))

pub returns-in_ok-pi-in-Pi-clause-ok : goal.returns-in_ok-pi-in-Pi-clause-ok
returns-in_ok-pi-in-Pi-clause-ok t c =
    let put = single (skeleton_of c.args.shape.now) (term_of c.args.arg.now) in
    let σ = lift_by c.args.index put in
    let k = ap kind_of c.in-Pi.is ∙ kind_of-Pi c.in-Pi.domain c.in-Pi.rest in
    c.in_ok-pi-in-Pi.ensures
    ∙ ap₂ kind_pi (c.in_ok-domain-in-Pi.ensures.ok ∙ ap (λ x. substitute_type reduce σ (type_of x)) c.deref.ensures)
    (c.in_ok-rest-in-Pi.ensures.ok ∙ ap₂ (λ n x. substitute_kind reduce (lift_by n put) (kind_of x)) c.in_ok-inside-in-Pi.ensures c.deref-in-Pi.ensures)
    ∙ sym (ap (substitute_kind reduce σ) k)
