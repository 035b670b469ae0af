use Rattle.law_session_order.proofs.Accepting.{kept_accepted}
use Rattle.law_session_order.proofs.kept_is_accepted.Goals as goal

pub returns : goal.returns
returns c = kept_accepted
