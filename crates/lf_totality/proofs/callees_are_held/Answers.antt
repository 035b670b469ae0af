use Rattle.lf_totality.proofs.Records.{callees_held}
use Rattle.lf_totality.proofs.callees_are_held.Goals as goal

pub returns : goal.returns
returns c = callees_held
