use Rattle.lf_coverage.proofs.ExamplesTwinsRun.{twins_one_instance as proved}
use Rattle.lf_coverage.proofs.twins_are_one_instance.Goals as goal

pub returns : goal.returns
returns c = proved
