use Rattle.lf_numbered.proofs.EntryPatternsExamples.{later_is_leaf as proved}
use Rattle.lf_numbered.proofs.later_is_leaf.Goals as goal

pub returns : goal.returns
returns c = proved
