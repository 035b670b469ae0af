use Rattle.law_session_order.proofs.Binders.{free_are_named}
use Rattle.law_session_order.proofs.free_are_named.Goals as goal

pub returns : goal.returns
returns c = free_are_named
