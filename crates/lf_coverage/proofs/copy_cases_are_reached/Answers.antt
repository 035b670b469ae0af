use Rattle.lf_coverage.proofs.ExamplesCopyingRun.{copy_reached as proved}
use Rattle.lf_coverage.proofs.copy_cases_are_reached.Goals as goal

pub returns : goal.returns
returns c = proved
