use Rattle.law_session_order.proofs.Reading.{open_back}
use Rattle.law_session_order.proofs.open_reads_back.Goals as goal

pub returns : goal.returns
returns c = open_back
