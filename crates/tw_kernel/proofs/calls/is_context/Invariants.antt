use Rattle.std.proofs.Common.{◌≡◌, ◌-◌, length, drop}
use Rattle.lf.specs.Entries.{signature_of}
use Rattle.lf.specs.Typing.{IsContext}
use Rattle.tw_kernel.proofs.calls.is_context.Given as goal

abbrev pub invariant-loop-place : goal.invariant-loop-place
invariant-loop-place l = record {
  all : l.count ≡ length l.context;
  outside : l.outer ≡ drop (l.count - l.place) l.context;
  typed : IsContext (signature_of l.signature) l.outer;
}
