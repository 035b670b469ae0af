use Rattle.lf_coverage.proofs.HeadMatching.{head_match_is_leaf as proved}
use Rattle.lf_coverage.proofs.head_match_is_leaf.Goals as goal

pub returns : goal.returns
returns c = proved
