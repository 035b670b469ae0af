use Rattle.std.proofs.Common.{◌≡◌, ◌++◌, Err, ap, ◌∙◌, subst, rules}
use Rattle.lf.specs.Entries.{signature_of}
use Rattle.lf.specs.Syntax.{skeleton}
use Rattle.lf.specs.Typing.{HasType, IsKind}
use Rattle.tw_terms.specs.View.{term_of, type_of, kind_of, skeleton_of}
use Rattle.tw_terms.proofs.Views.{kind_of-Pi}
use Rattle.tw_kernel.specs.Outcome.{fault_of}
use Rattle.tw_kernel.proofs.Spines.{failed, blames_substitution}
use Rattle.tw_kernel.proofs.KindSpines.{fits_at, deep_at}
use Rattle.tw_kernel.proofs.kinds.take_argument.Goals as goal

pub instantiate_kind-requires : goal.instantiate_kind-requires
instantiate_kind-requires c =
    let k = ap kind_of c.in-Pi.is ∙ kind_of-Pi c.in-Pi.domain c.in-Pi.rest in
    fits_at (signature_of c.args.signature.now) (c.args.inner.now ++ c.args.outer.now) (term_of c.args.arg.now) (skeleton_of c.in_ok-shape-in-Pi.shape) (type_of c.in-Pi.domain.value) (kind_of c.in-Pi.rest.value) (kind_of c.deref-in-Pi-2.result.now)
    (c.in_ok-shape-in-Pi.ensures ∙ ap (λ x. skeleton (type_of x)) c.deref-in-Pi.ensures) (ap kind_of c.deref-in-Pi-2.ensures)
    (subst (IsKind (signature_of c.args.signature.now) (c.args.inner.now ++ c.args.outer.now)) k c.requires.kind)
    (subst (λ x. HasType (signature_of c.args.signature.now) (c.args.inner.now ++ c.args.outer.now) (term_of c.args.arg.now) (type_of x)) c.deref.ensures c.in_ok-has_type-in-Pi.ensures.decided)

pub returns-in_err-instantiate_kind-in-Pi-clause-taken : goal.returns-in_err-instantiate_kind-in-Pi-clause-taken
returns-in_err-instantiate_kind-in-Pi-clause-taken c =
    let cause = c.in_err-instantiate_kind-in-Pi.field-0.0 in
    let e : c.from_residual-in_err-instantiate_kind-in-Pi.result ≡ Err (fault_of cause) = search rules in
    rw (c.in-Pi.is, kind_of-Pi)
    (failed _ (fault_of cause) _ _ e (blames_substitution cause _ _ (λ deep.
    deep_at (signature_of c.args.signature.now) (c.args.inner.now ++ c.args.outer.now) (term_of c.args.arg.now) (skeleton_of c.in_ok-shape-in-Pi.shape) (type_of c.in-Pi.domain.value) (kind_of c.in-Pi.rest.value) (kind_of c.deref-in-Pi-2.result.now)
    (c.in_ok-shape-in-Pi.ensures ∙ ap (λ x. skeleton (type_of x)) c.deref-in-Pi.ensures) (ap kind_of c.deref-in-Pi-2.ensures)
    (subst (λ x. HasType (signature_of c.args.signature.now) (c.args.inner.now ++ c.args.outer.now) (term_of c.args.arg.now) (type_of x)) c.deref.ensures c.in_ok-has_type-in-Pi.ensures.decided)
    (c.in_err-instantiate_kind-in-Pi.ensures.too_deep (ap Err deep)))))
