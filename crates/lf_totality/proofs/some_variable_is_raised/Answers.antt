use Rattle.lf_totality.proofs.ExamplesReached.{some_variable_raised}
use Rattle.lf_totality.proofs.some_variable_is_raised.Goals as goal

pub returns : goal.returns
returns c = some_variable_raised
