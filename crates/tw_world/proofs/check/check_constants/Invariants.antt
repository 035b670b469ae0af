use Rattle.lf.specs.Entries.{signature_of}
use Rattle.tw_world.proofs.Checked.{Rest, constant_alone, constants_listed, constants_next}
use Rattle.tw_world.proofs.check.check_constants.Given as goal

abbrev pub invariant-loop-id : goal.invariant-loop-id
invariant-loop-id l = Rest l.check (constant_alone (signature_of l.check.sig.now)) (constants_listed (signature_of l.check.sig.now)) (constants_next (signature_of l.check.sig.now)) l.ids l.id-index
