use Rattle.lf_coverage.proofs.FoundTyped.{head_match_is_typed as proved}
use Rattle.lf_coverage.proofs.head_match_is_typed.Goals as goal

pub returns : goal.returns
returns c = proved
