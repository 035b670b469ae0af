use Rattle.lf_cases.proofs.GroundTypes.{after_closed}
use Rattle.lf_totality.proofs.ground_after_is_closed.Goals as goal

pub returns : goal.returns
returns c = after_closed
