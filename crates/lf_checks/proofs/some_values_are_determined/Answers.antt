use Rattle.lf_checks.proofs.SomeValues.{some_values}
use Rattle.lf_checks.proofs.some_values_are_determined.Goals as goal

pub returns : goal.returns
returns c = some_values
