use Rattle.lf_coverage.proofs.RenumberedRuns.{step_under_numbers}
use Rattle.lf_coverage.proofs.step_under_numbers.Goals as goal

pub returns : goal.returns
returns c = step_under_numbers
