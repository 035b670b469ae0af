use Rattle.lf_numbered.proofs.WorkedCallsLocals.{lost_under_locals}
use Rattle.lf_numbered.proofs.term_is_lost_under_locals.Goals as goal

pub returns : goal.returns
returns c = lost_under_locals
