use Rattle.lf_totality.proofs.Refusals.{unground_refused}
use Rattle.lf_totality.proofs.unground_is_refused.Goals as goal

pub returns : goal.returns
returns c = unground_refused
