use Rattle.lf_numbered.proofs.OwnValuesExamplesRead.{entry_is_read_back as proved}
use Rattle.lf_numbered.proofs.entry_is_read_back.Goals as goal

pub returns : goal.returns
returns c = proved
