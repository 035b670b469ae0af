use Rattle.lf_coverage.proofs.Matched.{instance_matches as proved}
use Rattle.lf_coverage.proofs.instance_matches.Goals as goal

pub returns : goal.returns
returns c = proved
