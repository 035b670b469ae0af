use Rattle.std.proofs.Common.{◌≤◌, length}
use Rattle.lf.specs.Entries.{signature_of}
use Rattle.tw_putting.specs.Stores.{types_of}
use Rattle.tests_ready.specs.Checked.{TypedBelow}
use Rattle.tests_ready.proofs.readiness.typed_metavariables.Given as goal

-- those so far
abbrev pub invariant-loop-next : goal.invariant-loop-next
invariant-loop-next l = record {
  within : l.next ≤ length l.store.now.declared;
  below : TypedBelow (signature_of l.signature) (types_of l.store.now) l.next;
}
