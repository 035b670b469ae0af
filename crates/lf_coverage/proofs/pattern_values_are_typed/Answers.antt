use Rattle.lf_coverage.proofs.TypedValues.{pattern_values_are_typed}
use Rattle.lf_coverage.proofs.pattern_values_are_typed.Goals as goal

pub returns : goal.returns
returns c = pattern_values_are_typed
