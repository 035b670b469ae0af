use Rattle.std.proofs.Common.{◌≡◌, ◌-◌, drop, length}
use Rattle.lf.specs.Entries.{signature_of}
use Rattle.tw_putting.specs.Stores.{types_of}
use Rattle.tests_ready.specs.Checked.{IsContextTyped}
use Rattle.tests_ready.proofs.types.is_context.Given as goal

-- the outer types so far
abbrev pub invariant-loop-place : goal.invariant-loop-place
invariant-loop-place l = record {
  all : l.count ≡ length l.context;
  outer : l.outer ≡ drop (l.count - l.place) l.context;
  typed : IsContextTyped (signature_of l.signature) (types_of l.store.now) l.outer;
}
