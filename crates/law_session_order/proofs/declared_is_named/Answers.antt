use Rattle.law_session_order.proofs.Binders.{declared_named}
use Rattle.law_session_order.proofs.declared_is_named.Goals as goal

pub returns : goal.returns
returns c = declared_named
