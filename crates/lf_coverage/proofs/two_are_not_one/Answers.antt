use Rattle.lf_coverage.proofs.ExamplesMatching.{two_are_not_one as proved}
use Rattle.lf_coverage.proofs.two_are_not_one.Goals as goal

pub returns : goal.returns
returns c = proved
