use Rattle.law_session_order.proofs.Binders.{defined_named}
use Rattle.law_session_order.proofs.defined_is_named.Goals as goal

pub returns : goal.returns
returns c = defined_named
