use Rattle.lf_totality.proofs.Refusals.{no_parameter}
use Rattle.lf_totality.proofs.some_variable_is_no_parameter.Goals as goal

pub returns : goal.returns
returns c = no_parameter
