use Rattle.std.proofs.Common.{◌≡◌, ◌++◌, ◌+◌, Err, drop, ap, sym, ◌∙◌, subst, arith, rules}
use Rattle.lf.specs.Entries.{signature_of}
use Rattle.lf.specs.Syntax.{skeleton}
use Rattle.lf.specs.Typing.{HasType, IsType}
use Rattle.lf.proofs.Entries.{canonical_is_signature}
use Rattle.lf.proofs.Regular.{head_type}
use Rattle.tw_terms.specs.View.{head_of, term_of, spine_of, args_of, type_of, skeleton_of}
use Rattle.tw_terms.proofs.Views.{term_of-Root, type_of-Atom, type_of-Pi, spine_of-args}
use Rattle.tw_kernel.specs.Outcome.{fault_of}
use Rattle.tw_kernel.proofs.Rules.{kernel}
use Rattle.tw_kernel.proofs.Spines.{failed, step_in, stop_in, args_at, fits_at, deep_at, blames_substitution}
use Rattle.tw_kernel.proofs.Roots.{head_refused, spine_refused, root_refused}
use Rattle.tw_kernel.proofs.terms.+check.Goals as goal

pub has_type-returns-in_err-function-in-Root-Atom-clause-decided : goal.has_type-returns-in_err-function-in-Root-Atom-clause-decided
has_type-returns-in_err-function-in-Root-Atom-clause-decided t c =
    let f = c.in_err-function-in-Root-Atom.field-0.0 in
    let e : c.from_residual-in_err-function-in-Root-Atom.result ≡ Err f = search rules in
    rw (c.in-Root-Atom.is-0, c.in-Root-Atom.is-1, term_of-Root, type_of-Atom)
    (failed _ f _ _ e (head_refused (signature_of c.args.signature.now) (c.args.inner.now ++ c.args.outer.now) f (head_of c.in-Root-Atom.head) (spine_of c.in-Root-Atom.spine) c.in-Root-Atom.field-0-1.0 (spine_of c.in-Root-Atom.field-1-1) c.in_err-function-in-Root-Atom.ensures))

pub has_type-spine_type-requires : goal.has_type-spine_type-requires
has_type-spine_type-requires t c = (
  grind (arith, kernel),
  (
    c.requires.canonical,
    (
      c.requires.context,
      head_type (signature_of c.args.signature.now) (canonical_is_signature c.args.signature.now c.requires.canonical) (c.args.inner.now ++ c.args.outer.now) (head_of c.in-Root-Atom.head) (type_of c.in_ok-function-in-Root-Atom.function) c.requires.context c.in_ok-function-in-Root-Atom.ensures,
    ),
  ),
)

pub has_type-returns-in_err-given-in-Root-Atom-clause-decided : goal.has_type-returns-in_err-given-in-Root-Atom-clause-decided
has_type-returns-in_err-given-in-Root-Atom-clause-decided t c =
    let f = c.in_err-given-in-Root-Atom.field-0.0 in
    let e : c.from_residual-in_err-given-in-Root-Atom.result ≡ Err f = search rules in
    rw (c.in-Root-Atom.is-0, c.in-Root-Atom.is-1, term_of-Root, type_of-Atom)
    (failed _ f _ _ e (spine_refused (signature_of c.args.signature.now) (c.args.inner.now ++ c.args.outer.now) f (head_of c.in-Root-Atom.head) (spine_of c.in-Root-Atom.spine) (type_of c.in_ok-function-in-Root-Atom.function) c.in-Root-Atom.field-0-1.0 (spine_of c.in-Root-Atom.field-1-1) c.in_ok-function-in-Root-Atom.ensures c.in_err-given-in-Root-Atom.ensures.given))

pub has_type-returns-in-Root-Atom-clause-decided : goal.has_type-returns-in-Root-Atom-clause-decided
has_type-returns-in-Root-Atom-clause-decided t c =
    let a = ap type_of c.in-Root-Atom.is-1 ∙ type_of-Atom c.in-Root-Atom.field-0-1 c.in-Root-Atom.field-1-1 in
    rw (c.in-Root-Atom.is-0, c.in-Root-Atom.is-1, term_of-Root, type_of-Atom)
    (root_refused (signature_of c.args.signature.now) (c.args.inner.now ++ c.args.outer.now) (head_of c.in-Root-Atom.head) (spine_of c.in-Root-Atom.spine) (type_of c.in_ok-function-in-Root-Atom.function) (type_of c.in_ok-given-in-Root-Atom.given) c.in-Root-Atom.field-0-1.0 (spine_of c.in-Root-Atom.field-1-1) c.in_ok-function-in-Root-Atom.ensures c.in_ok-given-in-Root-Atom.ensures.given
    (λ e. let same = c.if-same.ensures.1 (e ∙ sym a) in cc))

pub spine_type-returns-in_err-ty-clause-given : goal.spine_type-returns-in_err-ty-clause-given
spine_type-returns-in_err-ty-clause-given t c =
    let f = c.in_err-ty.field-0.0 in
    let e : c.from_residual.result ≡ Err f = search rules in
    let items = c.deref-arg-items.result.now in
    rw (spine_of-args, ← c.deref-arg-items.ensures.value)
    (failed _ f _ _ e (stop_in (signature_of c.args.signature.now) (c.args.inner.now ++ c.args.outer.now) (c.loop-arg.inner ++ c.args.outer.now) (ap (λ X. X ++ c.args.outer.now) c.loop-arg.invariant.kept) f (args_of items) (args_of (drop (c.loop-arg.arg-index + 1) items)) (args_of (drop c.loop-arg.arg-index items)) (type_of c.args.function) (type_of c.loop-arg.ty) (term_of c.arg-item.result)
    (args_at items c.loop-arg.arg-index c.arg-item.result (omega arith) c.arg-item.is) c.loop-arg.invariant.so_far c.in_err-ty.ensures.taken))

pub spine_type-loop-arg-preserved : goal.spine_type-loop-arg-preserved
spine_type-loop-arg-preserved t c =
    let items = c.deref-arg-items.result.now in
    record {
      kept = c.in_ok-ty.ensures.context ∙ c.loop-arg.invariant.kept;
      so_far = step_in (signature_of c.args.signature.now) (c.args.inner.now ++ c.args.outer.now) (c.loop-arg.inner ++ c.args.outer.now) (ap (λ X. X ++ c.args.outer.now) c.loop-arg.invariant.kept) (canonical_is_signature c.args.signature.now c.requires.canonical) c.requires.context (args_of items) (args_of (drop (c.loop-arg.arg-index + 1) items)) (args_of (drop c.loop-arg.arg-index items)) (type_of c.args.function) (type_of c.loop-arg.ty) (type_of c.in_ok-ty.ty) (term_of c.arg-item.result)
          (args_at items c.loop-arg.arg-index c.arg-item.result (omega arith) c.arg-item.is) c.loop-arg.invariant.so_far c.in_ok-ty.ensures.taken;
    }

pub take_argument-substitute_ty-requires : goal.take_argument-substitute_ty-requires
take_argument-substitute_ty-requires t c =
    let a = ap type_of c.in-Pi.is ∙ type_of-Pi c.in-Pi.domain c.in-Pi.range in
    fits_at (signature_of c.args.signature.now) (c.args.inner.now ++ c.args.outer.now) (term_of c.args.arg.now) (skeleton_of c.in_ok-shape-in-Pi.shape) (type_of c.in-Pi.domain.value) (type_of c.in-Pi.range.value) (type_of c.deref-in-Pi-2.result.now)
    (c.in_ok-shape-in-Pi.ensures ∙ ap (λ x. skeleton (type_of x)) c.deref-in-Pi.ensures) (ap type_of c.deref-in-Pi-2.ensures)
    (subst (IsType (signature_of c.args.signature.now) (c.args.inner.now ++ c.args.outer.now)) a c.requires.ty)
    (subst (λ x. HasType (signature_of c.args.signature.now) (c.args.inner.now ++ c.args.outer.now) (term_of c.args.arg.now) (type_of x)) c.deref.ensures c.in_ok-has_type-in-Pi.ensures.decided)

pub take_argument-returns-in_err-substitute_ty-in-Pi-clause-taken : goal.take_argument-returns-in_err-substitute_ty-in-Pi-clause-taken
take_argument-returns-in_err-substitute_ty-in-Pi-clause-taken t c =
    let cause = c.in_err-substitute_ty-in-Pi.field-0.0 in
    let e : c.from_residual-in_err-substitute_ty-in-Pi.result ≡ Err (fault_of cause) = search rules in
    rw (c.in-Pi.is, type_of-Pi)
    (failed _ (fault_of cause) _ _ e (blames_substitution cause _ _ (λ deep.
    deep_at (signature_of c.args.signature.now) (c.args.inner.now ++ c.args.outer.now) (term_of c.args.arg.now) (skeleton_of c.in_ok-shape-in-Pi.shape) (type_of c.in-Pi.domain.value) (type_of c.in-Pi.range.value) (type_of c.deref-in-Pi-2.result.now)
    (c.in_ok-shape-in-Pi.ensures ∙ ap (λ x. skeleton (type_of x)) c.deref-in-Pi.ensures) (ap type_of c.deref-in-Pi-2.ensures)
    (subst (λ x. HasType (signature_of c.args.signature.now) (c.args.inner.now ++ c.args.outer.now) (term_of c.args.arg.now) (type_of x)) c.deref.ensures c.in_ok-has_type-in-Pi.ensures.decided)
    (c.in_err-substitute_ty-in-Pi.ensures.too_deep (ap Err deep)))))
