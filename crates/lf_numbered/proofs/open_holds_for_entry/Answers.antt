use Rattle.lf_numbered.proofs.NumberedReachedExamples.{open_holds_back, new_block_keeps_blocks, entry_is_numbered_instance}
use Rattle.lf_numbered.proofs.open_holds_for_entry.Goals as goal

pub returns-clause-open : goal.returns-clause-open
returns-clause-open c = open_holds_back

pub returns-clause-keeps : goal.returns-clause-keeps
returns-clause-keeps c = new_block_keeps_blocks

pub returns-clause-instance : goal.returns-clause-instance
returns-clause-instance c = entry_is_numbered_instance
