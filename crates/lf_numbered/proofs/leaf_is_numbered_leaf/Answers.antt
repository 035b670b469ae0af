use Rattle.lf_numbered.proofs.EntryPatternsItems.{leaf_is_numbered_leaf as proved}
use Rattle.lf_numbered.proofs.leaf_is_numbered_leaf.Goals as goal

pub returns : goal.returns
returns c = proved
