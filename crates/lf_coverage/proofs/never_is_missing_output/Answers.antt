use Rattle.lf_coverage.proofs.OutputRuns.{never_is_missing_output}
use Rattle.lf_coverage.proofs.never_is_missing_output.Goals as goal

pub returns : goal.returns
returns c = never_is_missing_output
