use Rattle.lf_numbered.proofs.WorkedCallsRun.{unasked_entry_is_no_hindrance}
use Rattle.lf_numbered.proofs.unasked_entry_is_no_hindrance.Goals as goal

pub returns : goal.returns
returns c = unasked_entry_is_no_hindrance
