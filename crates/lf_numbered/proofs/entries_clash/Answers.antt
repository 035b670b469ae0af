use Rattle.lf_numbered.proofs.WorkedCallsFunctions.{function_entry_clashes}
use Rattle.lf_numbered.proofs.WorkedCallsLeft.{new_entry_is_left}
use Rattle.lf_numbered.proofs.entries_clash.Goals as goal

pub returns-clause-function : goal.returns-clause-function
returns-clause-function c = function_entry_clashes

pub returns-clause-left : goal.returns-clause-left
returns-clause-left c = new_entry_is_left
