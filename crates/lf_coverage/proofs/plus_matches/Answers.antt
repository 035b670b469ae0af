use Rattle.lf_coverage.proofs.ExamplesMatching.{plus_matches as proved}
use Rattle.lf_coverage.proofs.plus_matches.Goals as goal

pub returns : goal.returns
returns c = proved
