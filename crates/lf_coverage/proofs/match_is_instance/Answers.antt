use Rattle.lf_coverage.proofs.MatchInstance.{match_is_instance as proved}
use Rattle.lf_coverage.proofs.match_is_instance.Goals as goal

pub returns : goal.returns
returns c = proved
