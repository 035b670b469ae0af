use Rattle.lf_coverage.proofs.Matching.{instance_is_found as proved}
use Rattle.lf_coverage.proofs.instance_is_found.Goals as goal

pub returns : goal.returns
returns c = proved
