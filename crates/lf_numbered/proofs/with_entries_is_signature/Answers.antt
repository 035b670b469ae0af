use Rattle.lf_numbered.proofs.EntrySignature.{with_entries_is_signature as proved}
use Rattle.lf_numbered.proofs.with_entries_is_signature.Goals as goal

pub returns : goal.returns
returns c = proved
