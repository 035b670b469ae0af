use Rattle.lf_numbered.proofs.ExamplesEntries.{entry_case_is_typed as proved}
use Rattle.lf_numbered.proofs.entry_case_is_typed.Goals as goal

pub returns : goal.returns
returns c = proved
