use Rattle.lf_totality.proofs.Refusals.{missing_world_refused}
use Rattle.lf_totality.proofs.missing_world_is_refused.Goals as goal

pub returns : goal.returns
returns c = missing_world_refused
