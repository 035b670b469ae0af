use Rattle.lf_numbered.proofs.NumberedMeetsExamples.{first_is_needed, other_shares_none}
use Rattle.lf_numbered.proofs.first_block_is_needed.Goals as goal

pub returns-clause-needed : goal.returns-clause-needed
returns-clause-needed c = first_is_needed

pub returns-clause-other : goal.returns-clause-other
returns-clause-other c = other_shares_none
