use Rattle.lf_numbered.proofs.ExamplesEntries.{entry_stands_on_its_terms as proved}
use Rattle.lf_numbered.proofs.entry_stands_on_its_terms.Goals as goal

pub returns : goal.returns
returns c = proved
