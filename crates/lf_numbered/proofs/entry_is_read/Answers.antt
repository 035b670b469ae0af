use Rattle.lf_numbered.proofs.ExamplesEntries.{entry_is_read as proved}
use Rattle.lf_numbered.proofs.entry_is_read.Goals as goal

pub returns : goal.returns
returns c = proved
