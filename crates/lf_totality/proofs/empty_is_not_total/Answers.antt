use Rattle.lf_totality.proofs.Refusals.{empty_not_total}
use Rattle.lf_totality.proofs.empty_is_not_total.Goals as goal

pub returns : goal.returns
returns c = empty_not_total
