use Rattle.lf.specs.Entries.{signature_of}
use Rattle.lf.proofs.Entries.{canonical_is_signature}
use Rattle.tests_unification.proofs.reading_off.settled.Goals as goal

pub returns-in-Ok-Solved : goal.returns-in-Ok-Solved
returns-in-Ok-Solved c = record {
  signature = signature_of c.args.signature.now;
  is_signature = canonical_is_signature c.args.signature.now c.is_canonical.ensures;
  ready = rw c.in-Ok-Solved.field-0-is at c.in-Ok-Solved.ensures.ready;
}
