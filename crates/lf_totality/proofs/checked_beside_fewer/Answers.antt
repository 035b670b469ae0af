use Rattle.lf_totality.proofs.Fewer.{checked_beside_fewer}
use Rattle.lf_totality.proofs.checked_beside_fewer.Goals as goal

pub returns : goal.returns
returns c = checked_beside_fewer
