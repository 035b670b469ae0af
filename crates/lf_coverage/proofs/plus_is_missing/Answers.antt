use Rattle.lf_coverage.proofs.ExamplesRuns.{plus_is_missing}
use Rattle.lf_coverage.proofs.plus_is_missing.Goals as goal

pub returns : goal.returns
returns c = plus_is_missing
