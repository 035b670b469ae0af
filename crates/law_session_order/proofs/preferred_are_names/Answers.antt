use Rattle.law_session_order.proofs.Binders.{preferred_names}
use Rattle.law_session_order.proofs.preferred_are_names.Goals as goal

pub returns : goal.returns
returns c = preferred_names
