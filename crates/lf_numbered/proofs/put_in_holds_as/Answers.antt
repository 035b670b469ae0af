use Rattle.lf_numbered.proofs.EntryPatternsSplits.{put_in_holds_as as proved, new_block_holds_as}
use Rattle.lf_numbered.proofs.put_in_holds_as.Goals as goal

pub returns-clause-values : goal.returns-clause-values
returns-clause-values c = proved

pub returns-clause-block : goal.returns-clause-block
returns-clause-block c = new_block_holds_as
