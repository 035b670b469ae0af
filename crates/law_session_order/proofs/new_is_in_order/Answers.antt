use Rattle.law_session_order.proofs.Keeping.{new_in_order}
use Rattle.law_session_order.proofs.new_is_in_order.Goals as goal

pub returns : goal.returns
returns c = new_in_order
