use Rattle.lf.proofs.Entries.{canonical_is_signature}
use Rattle.lf.proofs.canonical_is_signature.Goals as goal

pub returns : goal.returns
returns c = canonical_is_signature
