use Rattle.lf_coverage.proofs.ExamplesCopyingRun.{copy_covers as proved}
use Rattle.lf_coverage.proofs.copy_run_covers.Goals as goal

pub returns : goal.returns
returns c = proved
