use Rattle.lf_numbered.proofs.SharedTuples.{unsplit_is_met}
use Rattle.lf_numbered.proofs.unsplit_is_met.Goals as goal

pub returns : goal.returns
returns c = unsplit_is_met
