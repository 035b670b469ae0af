use Rattle.law_session_order.proofs.Reading.{report_from_back}
use Rattle.law_session_order.proofs.report_from_reads_back.Goals as goal

pub returns : goal.returns
returns c = report_from_back
