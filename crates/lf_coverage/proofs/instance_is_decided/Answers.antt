use Rattle.lf_coverage.proofs.MatchInstance.{instance_is_decided as proved}
use Rattle.lf_coverage.proofs.instance_is_decided.Goals as goal

pub returns : goal.returns
returns c = proved
