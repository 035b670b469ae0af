use Rattle.lf_totality.proofs.Addition.{stays_after}
use Rattle.lf_totality.proofs.addition_stays_checked.Goals as goal

pub returns : goal.returns
returns c = stays_after
