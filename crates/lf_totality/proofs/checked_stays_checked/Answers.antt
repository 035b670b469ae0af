use Rattle.lf_totality.proofs.Stays.{stays_checked}
use Rattle.lf_totality.proofs.checked_stays_checked.Goals as goal

pub returns : goal.returns
returns c = stays_checked
