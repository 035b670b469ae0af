use Rattle.lf_totality.proofs.OutputCases.{held_is_covered}
use Rattle.lf_totality.proofs.held_outputs_are_covered.Goals as goal

pub returns : goal.returns
returns c = held_is_covered
