use Rattle.lf_coverage.proofs.ExamplesMatching.{values_are_found as proved}
use Rattle.lf_coverage.proofs.values_are_found.Goals as goal

pub returns : goal.returns
returns c = proved
