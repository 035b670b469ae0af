use Rattle.tw_resolve.proofs.Reordered.{in_any_order}
use Rattle.tw_resolve.proofs.laws.order_is_free.Goals as goal

pub returns : goal.returns
returns c = in_any_order
