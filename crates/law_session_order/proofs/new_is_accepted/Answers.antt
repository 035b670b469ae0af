use Rattle.law_session_order.proofs.Accepting.{new_accepted}
use Rattle.law_session_order.proofs.new_is_accepted.Goals as goal

pub returns : goal.returns
returns c = new_accepted
