use Rattle.law_session_order.proofs.Keeping.{accepting_keeps}
use Rattle.law_session_order.proofs.accepting_keeps_order.Goals as goal

pub returns : goal.returns
returns c = accepting_keeps
