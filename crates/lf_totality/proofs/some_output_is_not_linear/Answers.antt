use Rattle.lf_totality.proofs.ExamplesReached.{some_output_not_linear}
use Rattle.lf_totality.proofs.some_output_is_not_linear.Goals as goal

pub returns : goal.returns
returns c = some_output_not_linear
