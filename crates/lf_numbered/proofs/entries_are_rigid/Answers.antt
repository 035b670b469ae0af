use Rattle.lf_numbered.proofs.WorkedCallsStores.{entries_are_taken}
use Rattle.lf_numbered.proofs.WorkedCallsTwins.{twins_give_no_case}
use Rattle.lf_numbered.proofs.entries_are_rigid.Goals as goal

pub returns-clause-twins : goal.returns-clause-twins
returns-clause-twins c = twins_give_no_case

pub returns-clause-taken : goal.returns-clause-taken
returns-clause-taken c = entries_are_taken
