use Rattle.law_session_order.proofs.Identifiers.{tokens_spelled}
use Rattle.law_session_order.proofs.tokens_are_spelled.Goals as goal

pub returns : goal.returns
returns c = tokens_spelled
