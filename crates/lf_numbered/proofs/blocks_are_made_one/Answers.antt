use Rattle.lf_numbered.proofs.WorkedCallsOne.{made_one_is_solved}
use Rattle.lf_numbered.proofs.WorkedCallsOneApart.{other_blocks_stay_apart}
use Rattle.lf_numbered.proofs.WorkedCallsOneOpen.{made_one_is_open}
use Rattle.lf_numbered.proofs.blocks_are_made_one.Goals as goal

pub returns-clause-solved : goal.returns-clause-solved
returns-clause-solved c = made_one_is_solved

pub returns-clause-open : goal.returns-clause-open
returns-clause-open c = made_one_is_open

pub returns-clause-apart : goal.returns-clause-apart
returns-clause-apart c = other_blocks_stay_apart
