use Rattle.lf_totality.proofs.Refusals.{cycle_refused}
use Rattle.lf_totality.proofs.cycle_is_refused.Goals as goal

pub returns : goal.returns
returns c = cycle_refused
