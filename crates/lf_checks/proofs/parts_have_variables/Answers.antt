use Rattle.lf_checks.proofs.PartTypes.{kept_variable}
use Rattle.lf_checks.proofs.parts_have_variables.Goals as goal

pub returns : goal.returns
returns c = kept_variable
