use Rattle.lf_numbered.proofs.EntryPatternsLeaf.{numbered_leaf_is_covered as proved}
use Rattle.lf_numbered.proofs.numbered_leaf_is_covered.Goals as goal

pub returns : goal.returns
returns c = proved
