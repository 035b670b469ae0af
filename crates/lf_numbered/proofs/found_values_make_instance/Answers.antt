use Rattle.lf_numbered.proofs.EntryPatternsTested.{found_values_make_instance as proved}
use Rattle.lf_numbered.proofs.found_values_make_instance.Goals as goal

pub returns : goal.returns
returns c = proved
