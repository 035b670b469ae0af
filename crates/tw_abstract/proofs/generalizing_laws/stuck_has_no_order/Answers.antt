use Rattle.tw_abstract.proofs.OrderLaws.{no_order}
use Rattle.tw_abstract.proofs.generalizing_laws.stuck_has_no_order.Goals as goal

pub returns : goal.returns
returns c = no_order
