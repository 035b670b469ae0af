use Rattle.lf_numbered.proofs.WorkedCallsWhole.{whole_run_is_answered}
use Rattle.lf_numbered.proofs.whole_run_is_answered.Goals as goal

pub returns : goal.returns
returns c = whole_run_is_answered
