use Rattle.lf_coverage.proofs.ExamplesTwinsReached.{twin_reached as proved}
use Rattle.lf_coverage.proofs.twin_cases_are_reached.Goals as goal

pub returns : goal.returns
returns c = proved
