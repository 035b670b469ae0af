use Rattle.lf_totality.proofs.ExamplesReached.{narrow_missing}
use Rattle.lf_totality.proofs.narrow_zero_is_missing.Goals as goal

pub returns : goal.returns
returns c = narrow_missing
