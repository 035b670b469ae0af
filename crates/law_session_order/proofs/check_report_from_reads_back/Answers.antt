use Rattle.law_session_order.proofs.Checks.{check_report_from_back}
use Rattle.law_session_order.proofs.check_report_from_reads_back.Goals as goal

pub returns : goal.returns
returns c = check_report_from_back
