use Rattle.law_session_order.proofs.Accepting.{read_back_accepted}
use Rattle.law_session_order.proofs.read_back_is_accepted.Goals as goal

pub returns : goal.returns
returns c = read_back_accepted
