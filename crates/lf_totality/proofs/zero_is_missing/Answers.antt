use Rattle.lf_totality.proofs.ExamplesMissing.{zero_missing}
use Rattle.lf_totality.proofs.zero_is_missing.Goals as goal

pub returns : goal.returns
returns c = zero_missing
