use Rattle.std.proofs.Common.{map, take}
use Rattle.lf.specs.Entries.{signature_of}
use Rattle.tw_metas.specs.View.{equation_of}
use Rattle.tw_putting.specs.Stores.{types_of}
use Rattle.tests_ready.specs.Checked.{AreEquationsTyped}
use Rattle.tests_ready.proofs.readiness.are_typed.Given as goal

-- those so far
abbrev pub invariant-loop-equation : goal.invariant-loop-equation
invariant-loop-equation l = AreEquationsTyped (signature_of l.signature) (types_of l.store.now) (map equation_of (take l.equation-index l.equations))
