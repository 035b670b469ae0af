use Rattle.law_session_order.proofs.Keeping.{making_keeps}
use Rattle.law_session_order.proofs.making_keeps_order.Goals as goal

pub returns : goal.returns
returns c = making_keeps
