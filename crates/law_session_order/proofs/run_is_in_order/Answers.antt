use Rattle.law_session_order.proofs.Steps.{run_in_order}
use Rattle.law_session_order.proofs.run_is_in_order.Goals as goal

pub returns : goal.returns
returns c = run_in_order
