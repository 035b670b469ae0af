use Rattle.lf_totality.proofs.Low.{no_outputs}
use Rattle.lf_totality.proofs.no_outputs_are_covered.Goals as goal

pub returns : goal.returns
returns c = no_outputs
