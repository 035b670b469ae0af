use Rattle.std.proofs.Common.{◌≡◌, ◌++◌, ◌+◌, Err, drop, ap, ◌∙◌, arith, rules}
use Rattle.lf.specs.Entries.{signature_of}
use Rattle.lf.proofs.Entries.{canonical_is_signature}
use Rattle.tw_terms.specs.View.{term_of, args_of, kind_of}
use Rattle.tw_terms.proofs.Views.{spine_of-args}
use Rattle.tw_kernel.proofs.Spines.{failed, args_at}
use Rattle.tw_kernel.proofs.KindSpines.{step_in, stop_in}
use Rattle.tw_kernel.proofs.kinds.fits_kind.Goals as goal

pub returns-in_err-kind-clause-decided : goal.returns-in_err-kind-clause-decided
returns-in_err-kind-clause-decided c =
    let f = c.in_err-kind.field-0.0 in
    let e : c.from_residual.result ≡ Err f = search rules in
    let items = c.deref-arg-items.result.now in
    rw (spine_of-args, ← c.deref-arg-items.ensures.value)
    (failed _ f _ _ e (stop_in (signature_of c.args.signature.now) (c.args.inner.now ++ c.args.outer.now) (c.loop-arg.inner ++ c.args.outer.now) (ap (λ X. X ++ c.args.outer.now) c.loop-arg.invariant.kept) f (args_of items) (args_of (drop (c.loop-arg.arg-index + 1) items)) (args_of (drop c.loop-arg.arg-index items)) (kind_of c.args.family) (kind_of c.loop-arg.kind) (term_of c.arg-item.result)
    (args_at items c.loop-arg.arg-index c.arg-item.result (omega arith) c.arg-item.is) c.loop-arg.invariant.so_far c.in_err-kind.ensures.taken))

pub loop-arg-preserved : goal.loop-arg-preserved
loop-arg-preserved c =
    let items = c.deref-arg-items.result.now in
    record {
      kept = c.in_ok-kind.ensures.context ∙ c.loop-arg.invariant.kept;
      so_far = step_in (signature_of c.args.signature.now) (c.args.inner.now ++ c.args.outer.now) (c.loop-arg.inner ++ c.args.outer.now) (ap (λ X. X ++ c.args.outer.now) c.loop-arg.invariant.kept) (canonical_is_signature c.args.signature.now c.requires.canonical) c.requires.context (args_of items) (args_of (drop (c.loop-arg.arg-index + 1) items)) (args_of (drop c.loop-arg.arg-index items)) (kind_of c.args.family) (kind_of c.loop-arg.kind) (kind_of c.in_ok-kind.kind) (term_of c.arg-item.result)
          (args_at items c.loop-arg.arg-index c.arg-item.result (omega arith) c.arg-item.is) c.loop-arg.invariant.so_far c.in_ok-kind.ensures.taken;
    }
