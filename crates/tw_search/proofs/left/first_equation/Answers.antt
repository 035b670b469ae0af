use Rattle.lf.specs.Entries.{signature_of}
use Rattle.lf.proofs.Entries.{canonical_is_signature}
use Rattle.tw_search.proofs.left.first_equation.Goals as goal

pub names-requires : goal.names-requires
names-requires c = record {
  signature = signature_of c.args.signature.now;
  is_signature = canonical_is_signature c.args.signature.now c.is_canonical.ensures;
  ready = c.requires.ready;
}
