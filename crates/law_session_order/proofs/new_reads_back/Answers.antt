use Rattle.law_session_order.proofs.Reading.{new_back}
use Rattle.law_session_order.proofs.new_reads_back.Goals as goal

pub returns : goal.returns
returns c = new_back
