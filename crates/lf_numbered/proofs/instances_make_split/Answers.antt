use Rattle.lf_numbered.proofs.EntryPatternsSplits.{instances_make_split as proved}
use Rattle.lf_numbered.proofs.instances_make_split.Goals as goal

pub returns : goal.returns
returns c = proved
