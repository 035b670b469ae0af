use Rattle.lf_coverage.proofs.RunTyped.{never_is_missing}
use Rattle.lf_coverage.proofs.never_is_missing.Goals as goal

pub returns : goal.returns
returns c = never_is_missing
