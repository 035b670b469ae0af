use Rattle.lf_totality.proofs.ExamplesReached.{zero_reached}
use Rattle.lf_totality.proofs.zero_is_reached.Goals as goal

pub returns : goal.returns
returns c = zero_reached
