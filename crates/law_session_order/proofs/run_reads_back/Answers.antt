use Rattle.law_session_order.proofs.Steps.{run_back}
use Rattle.law_session_order.proofs.run_reads_back.Goals as goal

pub returns : goal.returns
returns c = run_back
