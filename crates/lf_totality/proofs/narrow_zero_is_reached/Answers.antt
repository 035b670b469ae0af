use Rattle.lf_totality.proofs.ExamplesOutputs.{narrow_reached}
use Rattle.lf_totality.proofs.narrow_zero_is_reached.Goals as goal

pub returns : goal.returns
returns c = narrow_reached
