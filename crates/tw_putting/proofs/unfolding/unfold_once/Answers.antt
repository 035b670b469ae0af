use Rattle.std.proofs.Common.{◌≡◌, Some, None, slice_get, refl, sym, ap, ◌∙◌, subst, arith}
use Rattle.std.specs.Option.{option_map}
use Rattle.lf.specs.AtOnce.{shift_by}
use Rattle.lf.specs.Substitution.{reduce}
use Rattle.lf.specs.Syntax.{metavariable, rename, root, skeleton}
use Rattle.tw_metas.specs.State.{value_of}
use Rattle.tw_hered.specs.declared.fault.HeredFault.TheVariants.{TooDeep}
use Rattle.tw_terms.specs.OpenView.{open_spine_of, open_term_of, open_type_of}
use Rattle.tw_putting.specs.Fits.{PutFits}
use Rattle.tw_putting.specs.Stores.{types_of}
use Rattle.tw_putting.proofs.Arguments.{same_fault}
use Rattle.tw_putting.proofs.Environments.{environments}
use Rattle.tw_putting.proofs.HeadValues.{applies_under, deep_once, stays_unbound, unfolds_to}
use Rattle.tw_putting.proofs.unfolding.unfold_once.Goals as goal

pub value_under-requires : goal.value_under-requires
value_under-requires c =
    let s = c.args.store.now.now in
    let k = c.args.binders in
    let m = c.in-Root-Meta-default.meta.0 in
    let S = open_spine_of c.in-Root-Meta-default.spine in
    let A = open_type_of c.in-Some-about.ty.now in
    let N = open_term_of c.in-Some.value.now in
    let e : open_term_of c.args.term.now ≡ root (metavariable m) S = grind (arith, environments) in
    let v : value_of s m ≡ Some N = sym c.value.ensures ∙ ap (λ o. option_map (λ x. open_term_of x.now) o) c.in-Some.is in
    let d : slice_get s.declared m ≡ Some (record { context = c.in-Some-about.field-0-0.now; of_type = A }) = sym c.about.ensures ∙ ap (option_map (λ p. record { context = p.0.now; of_type = open_type_of p.1.now })) c.in-Some-about.is in
    let y : types_of s m ≡ Some A = ap (option_map (λ d. d.of_type)) d in
    let f : PutFits s k (root (metavariable m) S) = subst (PutFits s k) e c.requires in
    applies_under s k m S A N v y f

pub returns-in-Ok-clause-ok : goal.returns-in-Ok-clause-ok
returns-in-Ok-clause-ok c =
    let s = c.args.store.now.now in
    let k = c.args.binders in
    let m = c.in-Root-Meta-default.meta.0 in
    let S = open_spine_of c.in-Root-Meta-default.spine in
    let A = open_type_of c.in-Some-about.ty.now in
    let N = open_term_of c.in-Some.value.now in
    let e : open_term_of c.args.term.now ≡ root (metavariable m) S = grind (arith, environments) in
    let v : value_of s m ≡ Some N = sym c.value.ensures ∙ ap (λ o. option_map (λ x. open_term_of x.now) o) c.in-Some.is in
    let d : slice_get s.declared m ≡ Some (record { context = c.in-Some-about.field-0-0.now; of_type = A }) = sym c.about.ensures ∙ ap (option_map (λ p. record { context = p.0.now; of_type = open_type_of p.1.now })) c.in-Some-about.is in
    let y : types_of s m ≡ Some A = ap (option_map (λ d. d.of_type)) d in
    let f : PutFits s k (root (metavariable m) S) = subst (PutFits s k) e c.requires in
    unfolds_to s k m S A N v y f (open_term_of c.args.term.now) (open_term_of c.in-Ok.applied) e c.in-Ok.ensures.ok

pub returns-in-Err-clause-too_deep : goal.returns-in-Err-clause-too_deep
returns-in-Err-clause-too_deep c =
    let s = c.args.store.now.now in
    let k = c.args.binders in
    let m = c.in-Root-Meta-default.meta.0 in
    let S = open_spine_of c.in-Root-Meta-default.spine in
    let A = open_type_of c.in-Some-about.ty.now in
    let N = open_term_of c.in-Some.value.now in
    let e : open_term_of c.args.term.now ≡ root (metavariable m) S = grind (arith, environments) in
    let v : value_of s m ≡ Some N = sym c.value.ensures ∙ ap (λ o. option_map (λ x. open_term_of x.now) o) c.in-Some.is in
    let d : slice_get s.declared m ≡ Some (record { context = c.in-Some-about.field-0-0.now; of_type = A }) = sym c.about.ensures ∙ ap (option_map (λ p. record { context = p.0.now; of_type = open_type_of p.1.now })) c.in-Some-about.is in
    let y : types_of s m ≡ Some A = ap (option_map (λ d. d.of_type)) d in
    let f : PutFits s k (root (metavariable m) S) = subst (PutFits s k) e c.requires in
    λ t. deep_once s k (open_term_of c.args.term.now) (reduce (skeleton A) (rename (shift_by k) N) S) (unfolds_to s k m S A N v y f (open_term_of c.args.term.now) (reduce (skeleton A) (rename (shift_by k) N) S) e refl) (c.in-Err.ensures.too_deep (same_fault c.in-Err.fault TooDeep t))

pub returns-in-None-clause-ok : goal.returns-in-None-clause-ok
returns-in-None-clause-ok c =
    let s = c.args.store.now.now in
    let m = c.in-Root-Meta-default.meta.0 in
    let S = open_spine_of c.in-Root-Meta-default.spine in
    let e : open_term_of c.args.term.now ≡ root (metavariable m) S = grind (arith, environments) in
    let v : value_of s m ≡ None = sym c.value.ensures ∙ ap (λ o. option_map (λ x. open_term_of x.now) o) c.in-None.is in
    stays_unbound s (open_term_of c.args.term.now) m S e v
