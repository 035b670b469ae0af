use Rattle.lf_coverage.proofs.ExamplesTwins.{twins_are_split as proved}
use Rattle.lf_coverage.proofs.twins_are_split.Goals as goal

pub returns : goal.returns
returns c = proved
