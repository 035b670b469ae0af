use Rattle.lf_coverage.proofs.Matching.{values_are_determined as proved}
use Rattle.lf_coverage.proofs.values_are_determined.Goals as goal

pub returns : goal.returns
returns c = proved
