use Rattle.law_session_order.proofs.Accepting.{open_accepted}
use Rattle.law_session_order.proofs.open_is_accepted.Goals as goal

pub returns : goal.returns
returns c = open_accepted
