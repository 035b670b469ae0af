use Rattle.law_session_order.proofs.Reading.{kept_back}
use Rattle.law_session_order.proofs.kept_reads_back.Goals as goal

pub returns : goal.returns
returns c = kept_back
