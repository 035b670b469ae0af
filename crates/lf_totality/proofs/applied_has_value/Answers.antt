use Rattle.lf_totality.proofs.ExamplesReached.{applied_has_value}
use Rattle.lf_totality.proofs.applied_has_value.Goals as goal

pub returns : goal.returns
returns c = applied_has_value
