use Rattle.lf_checks.proofs.Ways.{leads_decided}
use Rattle.lf_checks.proofs.ways_are_decided.Goals as goal

pub returns : goal.returns
returns c = leads_decided
