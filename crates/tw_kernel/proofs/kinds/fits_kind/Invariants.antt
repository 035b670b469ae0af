use Rattle.std.proofs.Common.{◌≡◌, ◌++◌, drop}
use Rattle.lf.specs.Entries.{signature_of}
use Rattle.tw_terms.specs.View.{args_of, kind_of}
use Rattle.tw_kernel.proofs.KindSpines.{KindProgress}
use Rattle.tw_kernel.proofs.kinds.fits_kind.Given as goal

abbrev pub invariant-loop-arg : goal.invariant-loop-arg
invariant-loop-arg l = record {
  kept : l.inner ≡ l.fn.inner;
  so_far : KindProgress (signature_of l.signature) (l.fn.inner ++ l.outer) (args_of l.arg-items) (kind_of l.fn.family) (args_of (drop l.arg-index l.arg-items)) (kind_of l.kind);
}
