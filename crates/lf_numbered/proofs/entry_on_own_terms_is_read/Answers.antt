use Rattle.lf_numbered.proofs.OwnHeads.{entry_on_own_terms_is_read as proved}
use Rattle.lf_numbered.proofs.entry_on_own_terms_is_read.Goals as goal

pub returns : goal.returns
returns c = proved
