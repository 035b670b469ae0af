use Rattle.law_session_order.proofs.Signature.{signature_back}
use Rattle.law_session_order.proofs.signature_reads_back.Goals as goal

pub returns : goal.returns
returns c = signature_back
