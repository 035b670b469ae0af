use Rattle.lf_coverage.proofs.Examples.{plus_by_heads as proved}
use Rattle.lf_coverage.proofs.plus_is_covered_by_heads.Goals as goal

pub returns : goal.returns
returns c = proved
