use Rattle.lf_numbered.proofs.EntryPatternsExamples.{copy_is_instance as proved}
use Rattle.lf_numbered.proofs.copy_is_instance.Goals as goal

pub returns : goal.returns
returns c = proved
