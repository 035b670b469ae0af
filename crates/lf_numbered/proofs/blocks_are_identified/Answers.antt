use Rattle.lf_numbered.proofs.ExamplesNumbered.{turned_is_typed, blocks_are_identified, copies_are_numbered}
use Rattle.lf_numbered.proofs.blocks_are_identified.Goals as goal

pub returns-clause-turned : goal.returns-clause-turned
returns-clause-turned c = turned_is_typed

pub returns-clause-identified : goal.returns-clause-identified
returns-clause-identified c = blocks_are_identified

pub returns-clause-numbered : goal.returns-clause-numbered
returns-clause-numbered c = copies_are_numbered
