use Rattle.lf_coverage.proofs.OutputRuns.{open_outputs_are_covered}
use Rattle.lf_coverage.proofs.open_outputs_are_covered.Goals as goal

pub returns : goal.returns
returns c = open_outputs_are_covered
