use Rattle.lf_coverage.proofs.ExamplesTwinsRun.{twin_run_covers as proved}
use Rattle.lf_coverage.proofs.twin_run_covers.Goals as goal

pub returns : goal.returns
returns c = proved
