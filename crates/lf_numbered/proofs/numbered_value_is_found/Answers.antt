use Rattle.lf_numbered.proofs.EntryPatternsEntry.{numbered_value_is_found as proved}
use Rattle.lf_numbered.proofs.numbered_value_is_found.Goals as goal

pub returns : goal.returns
returns c = proved
