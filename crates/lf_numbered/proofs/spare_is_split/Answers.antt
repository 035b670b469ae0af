use Rattle.lf_numbered.proofs.NumberedBesideInstances.{spare_is_split, new_block_holds_same}
use Rattle.lf_numbered.proofs.spare_is_split.Goals as goal

pub returns-clause-instances : goal.returns-clause-instances
returns-clause-instances c = spare_is_split

pub returns-clause-new_block : goal.returns-clause-new_block
returns-clause-new_block c = new_block_holds_same
