use Rattle.lf_coverage.proofs.ExamplesTyped.{zero_is_apart}
use Rattle.lf_coverage.proofs.zero_is_apart.Goals as goal

pub returns : goal.returns
returns c = zero_is_apart
