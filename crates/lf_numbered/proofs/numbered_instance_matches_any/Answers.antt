use Rattle.lf_numbered.proofs.EntryTermsComplete.{numbered_instance_matches_any as proved}
use Rattle.lf_numbered.proofs.numbered_instance_matches_any.Goals as goal

pub returns : goal.returns
returns c = proved
