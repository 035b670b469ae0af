use Rattle.law_session_order.proofs.Steps.{step_keeps}
use Rattle.law_session_order.proofs.step_keeps_order.Goals as goal

pub returns : goal.returns
returns c = step_keeps
