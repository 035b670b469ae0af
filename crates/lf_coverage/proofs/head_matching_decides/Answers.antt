use Rattle.lf_coverage.proofs.HeadMatching.{head_matching_decides as proved}
use Rattle.lf_coverage.proofs.head_matching_decides.Goals as goal

pub returns : goal.returns
returns c = proved
