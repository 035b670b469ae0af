use Rattle.law_session_order.proofs.Keeping.{setting_keeps}
use Rattle.law_session_order.proofs.setting_keeps_order.Goals as goal

pub returns : goal.returns
returns c = setting_keeps
