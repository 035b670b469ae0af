use Rattle.tw_putting.proofs.Calls.{one_result}
use Rattle.tw_putting.proofs.laws.putting_has_one_result.Goals as goal

pub returns : goal.returns
returns c = one_result
