use Rattle.lf_coverage.proofs.ExamplesTwinsRun.{twins_matched as proved}
use Rattle.lf_coverage.proofs.twins_are_matched.Goals as goal

pub returns : goal.returns
returns c = proved
